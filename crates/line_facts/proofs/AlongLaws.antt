-- Laws of the cells along a line of a grid, and of a line that is written cell by cell.
use Rattle.std.proofs.Common.{◌≡◌, ◌≢◌, ℕ, ◌+◌, ◌<◌, ◌≤◌, List, refl, sym, ap, subst, ◌∙◌, arith, inl, inr, length, get_or}
use Rattle.std.proofs.lemmas.Bool.{cases_eq}
use Rattle.std.proofs.lemmas.List.{length-map}
use Rattle.line_facts.specs.Masks.{Masks}
use Rattle.picture.specs.declared.line_id.Axis.{Axis}
use Rattle.picture.specs.declared.line_id.Axis.TheVariants.{Across, Down}
use Rattle.picture.specs.declared.line_id.LineId.{LineId}
use Rattle.picture.specs.Rows.{width_of, cell_at, with_cell, line_along, line_of, lines_along, HasLine, Rows}
use Rattle.line_facts.specs.FactSets.{SameShape, IsFacts, HoldsLine, row_on, col_on, IsOn}
use Rattle.line_facts.proofs.GridLaws.{cell_on, shape_with_cell, at_with_cell, off_with_cell, same_line_length, same_has_line, shape_refl, shape_trans, same_list}

length_along : (axis : Axis) (at : ℕ) (rows : Rows) → IsFacts rows → at < lines_along axis rows → (i : ℕ) → i < length (line_along axis at rows)
    → (row_on axis at i < length rows) × (col_on axis at i < width_of rows)
length_along Across at rows is h i l = (h, (let r = is.rectangular at h in omega arith))
length_along Down at rows is h i l = ((let m = length-map rows (λ (row : List ℕ). get_or row at 0) in omega arith), h)

pub place_on : (rows : Rows) (line : LineId) (i : ℕ) → IsFacts rows → HasLine rows line → i < length (line_of rows line)
    → (row_on line.axis line.at i < length rows) × (col_on line.axis line.at i < width_of rows)
place_on rows line i is h l = length_along line.axis line.at rows is h i l

pub across_in : (rows : Rows) (line : LineId) (i : ℕ) → line.axis ≡ Across → IsFacts rows → HasLine rows line → i < length (line_of rows line) → (line.at < length rows) × (i < width_of rows)
across_in rows line i e is h l = let P : Axis → Type 0 = λ a. (row_on a line.at i < length rows) × (col_on a line.at i < width_of rows) in subst P e (place_on rows line i is h l)

pub down_in : (rows : Rows) (line : LineId) (i : ℕ) → line.axis ≡ Down → IsFacts rows → HasLine rows line → i < length (line_of rows line) → (i < length rows) × (line.at < width_of rows)
down_in rows line i e is h l = let P : Axis → Type 0 = λ a. (row_on a line.at i < length rows) × (col_on a line.at i < width_of rows) in subst P e (place_on rows line i is h l)

pub across_cell : (rows : Rows) (line : LineId) (i : ℕ) → line.axis ≡ Across → cell_at rows line.at i ≡ get_or (line_of rows line) i 0
across_cell rows line i e = let P : Axis → Type 0 = λ a. cell_at rows (row_on a line.at i) (col_on a line.at i) ≡ get_or (line_of rows line) i 0 in subst P e (sym (cell_on rows line i))

pub down_cell : (rows : Rows) (line : LineId) (i : ℕ) → line.axis ≡ Down → cell_at rows i line.at ≡ get_or (line_of rows line) i 0
down_cell rows line i e = let P : Axis → Type 0 = λ a. cell_at rows (row_on a line.at i) (col_on a line.at i) ≡ get_or (line_of rows line) i 0 in subst P e (sym (cell_on rows line i))

pub across_length : (rows : Rows) (line : LineId) → line.axis ≡ Across → IsFacts rows → HasLine rows line → width_of rows ≡ length (line_of rows line)
across_length rows line e is h =
    let P : Axis → Type 0 = λ a. line.at < lines_along a rows in
    sym (ap (λ a. length (line_along a line.at rows)) e ∙ is.rectangular line.at (subst P e h))

pub down_length : (rows : Rows) (line : LineId) → line.axis ≡ Down → length rows ≡ length (line_of rows line)
down_length rows line e = sym (ap (λ a. length (line_along a line.at rows)) e ∙ length-map rows (λ (row : List ℕ). get_or row line.at 0))

pub ruleset places = (across_in, down_in, across_cell, down_cell, across_length, down_length)

-- ---- one cell of a line written

one_place : (axis : Axis) (at i j : ℕ) → row_on axis at j ≡ row_on axis at i → col_on axis at j ≡ col_on axis at i → j ≡ i
one_place Across at i j r c = c
one_place Down at i j r c = r

-- the cell at place i of a line written
abbrev pub with_place : Rows → LineId → ℕ → ℕ → Masks
with_place rows line i mask = with_cell rows (row_on line.axis line.at i) (col_on line.axis line.at i) mask

written_here : (rows : Rows) (line : LineId) (i mask : ℕ) → IsFacts rows → HasLine rows line → i < length (line_of rows line) → get_or (line_of (with_place rows line i mask) line) i 0 ≡ mask
written_here rows line i mask is h l =
    let p = place_on rows line i is h l in
    let r = is.rectangular (row_on line.axis line.at i) p.0 in
    cell_on (with_place rows line i mask) line i ∙ at_with_cell rows (row_on line.axis line.at i) (col_on line.axis line.at i) mask p.0 (omega arith)

pub written_apart : (rows : Rows) (line : LineId) (i j mask : ℕ) → j ≢ i → get_or (line_of (with_place rows line i mask) line) j 0 ≡ get_or (line_of rows line) j 0
written_apart rows line i j mask n =
    cell_on (with_place rows line i mask) line j
    ∙ (off_with_cell rows (row_on line.axis line.at i) (col_on line.axis line.at i) mask (row_on line.axis line.at j) (col_on line.axis line.at j) (λ p. n (one_place line.axis line.at i j p.0 p.1))
    ∙ sym (cell_on rows line j))

-- the first n cells of a line have these masks, and elsewhere all is as it was
pub record Written (line : LineId) (old : Masks) (rows : Rows) (masks : List ℕ) (n : ℕ) : Type 0 where
  pub same_shape : SameShape old rows
  pub so_far : (j : ℕ) → j < n → get_or (line_of rows line) j 0 ≡ get_or masks j 0
  pub elsewhere : (r c : ℕ) → (IsOn line r c → ⊥) → cell_at rows r c ≡ cell_at old r c

pub written_none : (line : LineId) (old : Masks) (masks : List ℕ) → Written line old old masks 0
written_none line old masks = record { same_shape = shape_refl old; so_far = λ j l. absurd (omega arith); elsewhere = λ r c n. refl }

pub written_more : (line : LineId) (old : Masks) (rows : Rows) (new : Masks) (masks : List ℕ) (i mask : ℕ) → IsFacts rows → HasLine old line → length masks ≡ length (line_of old line)
    → i < length masks → mask ≡ get_or masks i 0 → Written line old rows masks i → new ≡ with_place rows line i mask → Written line old new masks (i + 1)
written_more line old rows new masks i mask is h len l e w v =
    let has = same_has_line old rows line w.same_shape h in
    let same = same_line_length old rows line w.same_shape in
    let P : List (List ℕ) → Type 0 = λ f. Written line old f masks (i + 1) in
    subst P (sym v) (record {
      same_shape = shape_trans w.same_shape (shape_with_cell rows (row_on line.axis line.at i) (col_on line.axis line.at i) mask);
      so_far = λ j m. elim (cases_eq j i) [
        | inl k ↦
            let Q : ℕ → Type 0 = λ n. get_or (line_of (with_place rows line i mask) line) n 0 ≡ get_or masks n 0 in
            subst Q (sym k) (written_here rows line i mask is has (omega arith) ∙ e)
        | inr n ↦ written_apart rows line i j mask n ∙ w.so_far j (omega arith)
      ];
      elsewhere = λ r c n. off_with_cell rows (row_on line.axis line.at i) (col_on line.axis line.at i) mask r c (λ p. n (i, p.0, p.1)) ∙ w.elsewhere r c n;
    })

pub written_all : (line : LineId) (old : Masks) (rows : Rows) (masks : List ℕ) (n : ℕ) → length masks ≡ length (line_of old line) → length masks ≤ n → Written line old rows masks n
    → HoldsLine line old rows masks
written_all line old rows masks n len l w = record {
  same_shape = w.same_shape;
  line_is = same_list (line_of rows line) masks (same_line_length old rows line w.same_shape ∙ sym len) (λ j m. w.so_far j (omega arith));
  elsewhere = w.elsewhere;
}
