-- What the start of a puzzle leaves out, the lines exclude, and its picture has none of it.
use Rattle.std.proofs.Common.{◌≡◌, ℕ, zero, suc, ◌<◌, ◌⊎◌, List, [], ◌∷◌, length, get_or, refl, sym, ap, subst, ◌∙◌, arith, inl, inr, eqb-true}
use Rattle.std.specs.Prelude.{IsBitSet, ◌==◌, Bool, true, false, if◌then◌else◌}
use Rattle.std.proofs.lemmas.Bool.{cases_lt}
use Rattle.std.proofs.lemmas.List.{get_or_past}
use Rattle.line_facts.specs.Masks.{Masks}
use Rattle.picture.specs.declared.line_id.Axis.{Axis}
use Rattle.picture.specs.declared.line_id.Axis.TheVariants.{Across, Down}
use Rattle.picture.specs.declared.line_id.LineId.{LineId}
use Rattle.picture.specs.Picture.{IsPicture}
use Rattle.picture.specs.Rows.{cell_at, line_of, row_at, width_of, HasLine, Rows}
use Rattle.clues.specs.declared.block.Block.{Block}
use Rattle.clues.specs.Clue.{block, clue_of, joined, longer}
use Rattle.picture.specs.declared.picture.TheConstants.{MAX_SIDE}
use Rattle.clues.specs.ClueBook.{Clues, clues_of}
use Rattle.line_facts.specs.FactSets.{IsBase, IsClosed, IsWithin, Leaves, SameShape, col_on, row_on}
use Rattle.fixpoint.specs.ClosedFacts.{AreClosable}
use Rattle.fixpoint.specs.Fillings.{Fills}
use Rattle.grade.specs.Laws.{PicturesFillStarts, StartsSuffice}
use Rattle.grade.specs.Starts.{HasColour, IsAllowed, IsNamedAlong, IsStart}
use Rattle.picture.proofs.BitLaws.{bit_or_not, no_bit}
use Rattle.clues.proofs.BookLaws.{clue_at-clues_of}
use Rattle.clues.proofs.LawLemmas.{of_lines}
use Rattle.clues.proofs.Runs.{clue_of-clue}
use Rattle.line_facts.proofs.GridLaws.{cell_on, shape_sym, shape_trans}
use Rattle.fixpoint.proofs.ClosingLaws.{within_trans}

-- ---- the colours of a clue

later : (b : Block) (blocks : List Block) (k : ℕ) → HasColour blocks k → HasColour (b ∷ blocks) k
later b blocks k h = (suc h.0, (let l = h.1 in omega arith), h.2)

in_longer : (blocks : List Block) (k : ℕ) → HasColour blocks k → HasColour (longer blocks) k
in_longer [] k h = absurd (let l = h.1 in omega arith)
in_longer (b ∷ blocks) k (zero, l, e) = (zero, omega arith, e)
in_longer (b ∷ blocks) k (suc i, l, e) = (suc i, l, e)

in_choice : (b : Bool) (one other : List Block) (k : ℕ) → HasColour one k → HasColour other k → HasColour (if b then one else other) k
in_choice true one other k h g = h
in_choice false one other k h g = g

-- the clue of more cells has the colours that it had
in_joined : (x : ℕ) (rest : List ℕ) (blocks : List Block) (k : ℕ) → HasColour blocks k → HasColour (joined x rest blocks) k
in_joined x [] blocks k h = later (block 1 x) blocks k h
in_joined x (y ∷ rest) blocks k h = in_choice (x == y) (longer blocks) (block 1 x ∷ blocks) k (in_longer blocks k h) (later (block 1 x) blocks k h)

first_joined : (x : ℕ) (rest : List ℕ) (blocks : List Block) → ((y : ℕ) (r : List ℕ) → rest ≡ y ∷ r → x ≡ y → HasColour blocks x) → HasColour (joined x rest blocks) x
first_joined x [] blocks h = (0, omega arith, refl)
first_joined x (y ∷ rest) blocks h = by (x == y) refl
  where
    by : (b : Bool) → (x == y) ≡ b → HasColour (if b then longer blocks else (block 1 x ∷ blocks)) x
    by true e = in_longer blocks x (h y rest refl (eqb-true x y e))
    by false e = (0, omega arith, refl)

first_again : (x : ℕ) (rest : List ℕ) → (0 < length rest → (get_or rest 0 0 ≡ 0) ⊎ HasColour (clue_of rest) (get_or rest 0 0)) → (y : ℕ) (r : List ℕ) → rest ≡ y ∷ r → suc x ≡ y
    → HasColour (clue_of rest) (suc x)
first_again x rest first y r e same =
    let long : 0 < length rest = (let n = ap length e in omega arith) in
    let head : get_or rest 0 0 ≡ suc x = ap (λ (cells : List ℕ). get_or cells 0 0) e ∙ sym same in
    elim (first long) [
      | inl none ↦ absurd (omega arith)
      | inr has ↦ let P : ℕ → Type 0 = λ k. HasColour (clue_of rest) k in subst P head has
    ]

-- a cell is background, or its colour is one of the clue
pub colour_in_clue : (cells : List ℕ) (i : ℕ) → i < length cells → (get_or cells i 0 ≡ 0) ⊎ HasColour (clue_of cells) (get_or cells i 0)
colour_in_clue [] i l = absurd (omega arith)
colour_in_clue (zero ∷ rest) zero l = inl refl
colour_in_clue (zero ∷ rest) (suc i) l = colour_in_clue rest i (omega arith)
colour_in_clue (suc x ∷ rest) zero l = inr (first_joined (suc x) rest (clue_of rest) (λ y r e same. first_again x rest (colour_in_clue rest 0) y r e same))
colour_in_clue (suc x ∷ rest) (suc i) l = elim (colour_in_clue rest i (omega arith)) [
  | inl none ↦ inl none
  | inr has ↦ inr (in_joined (suc x) rest (clue_of rest) (get_or rest i 0) has)
]

-- ---- the start of a picture's puzzle

-- a colour that a line has with its clue is allowed
allowed : (picture : Rows) (row : ℕ) (cells : List ℕ) (col : ℕ) → row < length picture → clue_of cells ≡ clue_of (row_at picture row) → col < length cells
    → IsAllowed (clues_of picture) (get_or cells col 0)
allowed picture row cells col r e l = elim (colour_in_clue cells col l) [
  | inl none ↦ inl none
  | inr has ↦
      let line : LineId = record { axis = Across; at = row } in
      let clue = clue_at-clues_of picture line r in
      let size = of_lines.sizes picture Across in
      let P : List Block → Type 0 = λ blocks. HasColour blocks (get_or cells col 0) in
      inr (inl (row, omega arith, subst P (e ∙ sym clue) has))
]

-- a colour that some clue of a picture names is one of sixteen
small_along : (axis : Axis) (picture : Rows) (k : ℕ) → IsPicture picture → IsNamedAlong axis (clues_of picture) k → k < 16
small_along axis picture k is named =
    let line : LineId = record { axis = axis; at = named.0 } in
    let size = of_lines.sizes picture axis in
    let has : HasLine picture line = omega (arith, size, named.1) in
    let clue = clue_at-clues_of picture line has in
    let colours : (i : ℕ) → get_or (line_of picture line) i 0 < 16 = λ i. (let e = cell_on picture line i in let c = is.colours (row_on axis named.0 i) (col_on axis named.0 i) in omega arith) in
    let P : List Block → Type 0 = λ blocks. HasColour blocks k in
    let there = subst P clue named.2 in
    let small = (clue_of-clue (line_of picture line) colours there.0 (block 0 0) there.1).in_palette in
    let same = there.2 in
    omega arith

small : (picture : Rows) (k : ℕ) → IsPicture picture → IsAllowed (clues_of picture) k → k < 16
small picture k is (inl none) = omega arith
small picture k is (inr (inl row)) = small_along Across picture k is row
small picture k is (inr (inr column)) = small_along Down picture k is column

-- a colour is left in cells alone
inside : (picture : Rows) (facts : Masks) (row col k : ℕ) → IsPicture picture → SameShape picture facts → Leaves facts row col k → (row < length picture) × (col < width_of picture)
inside picture facts row col k is shape leaves =
    let P : ℕ → Type 0 = λ m. IsBitSet m k in
    let across : col < length (row_at facts row) = elim (cases_lt col (length (row_at facts row))) [
      | inl l ↦ l
      | inr past ↦ absurd (no_bit k (subst P (get_or_past (row_at facts row) col 0 past) leaves))
    ] in
    let down : row < length picture = elim (cases_lt row (length picture)) [
      | inl l ↦ l
      | inr past ↦ (
          let none = ap length (get_or_past picture row [] past) in
          let same = shape.each row in
          absurd (omega arith))
    ] in
    (down, let same = shape.each row in let wide = is.rectangular row down in omega arith)

-- facts of a picture's shape have the sizes of its clues
pub start_sizes : (picture : Rows) (clues : Clues) (facts : Masks) → IsPicture picture → clues ≡ clues_of picture → SameShape picture facts → AreClosable clues MAX_SIDE facts
start_sizes picture clues facts is e shape =
    let P : Clues → Type 0 = λ c. AreClosable c MAX_SIDE facts in
    let rows = of_lines.sizes picture Across in
    let columns = of_lines.sizes picture Down in
    let tall = shape.rows in
    let wide = shape.each 0 in
    let few_rows = is.rows_fit in
    let few_columns = is.columns_fit in
    subst P (sym e) (record { rows = omega arith; columns = omega arith; wide = omega arith; tall = omega arith })

module _ (picture : Rows) (givens : List ℕ) (is : IsPicture picture) where
  -- a picture has in each cell a colour that is left at the start
  pub picture_fills : (start : Masks) → IsStart (clues_of picture) givens picture start → Fills (clues_of picture) start picture
  picture_fills start s = record {
    is_picture = is;
    same_shape = s.same_shape;
    has_clues = refl;
    leaves = λ row col l.
        let down : row < length picture = elim (cases_lt row (length picture)) [
          | inl d ↦ d
          | inr past ↦ (let none = ap length (get_or_past picture row [] past) in absurd (omega arith))
        ] in
        let across : col < width_of picture = (let wide = is.rectangular row down in omega arith) in
        (s.left row col (cell_at picture row col) down across).1 ((λ _. refl), (λ _. allowed picture row (row_at picture row) col down refl l));
  }

  -- what is left at the start the givens allow
  base_within : (base start : Masks) → IsBase givens picture base → IsStart (clues_of picture) givens picture start → IsWithin base start
  base_within base start b s = record {
    same_shape = shape_trans (shape_sym b.same_shape) s.same_shape;
    leaves = λ row col k leaves.
        let at = inside picture start row col k is s.same_shape leaves in
        let can = (s.left row col k at.0 at.1).0 leaves in
        let few : k < 16 = elim (bit_or_not (get_or givens row 0) col) [
          | inl given ↦ (let e = can.0 given in let c = is.colours row col in omega arith)
          | inr free ↦ small picture k is (can.1 free)
        ] in
        (b.left row col k at.0 at.1).1 (few, can.0);
  }

  -- the lines exclude what is not left at the start
  start_within : (base start others : Masks) → IsBase givens picture base → IsStart (clues_of picture) givens picture start → IsClosed (clues_of picture) others → IsWithin base others
      → IsWithin start others
  start_within base start others b s closed w =
      let shape = shape_trans b.same_shape w.same_shape in
      record {
        same_shape = shape_trans (shape_sym s.same_shape) shape;
        leaves = λ row col k leaves.
            let at = inside picture others row col k is shape leaves in
            let line : LineId = record { axis = Across; at = row } in
            let has : HasLine others line = (let e = shape.rows in let d = at.0 in omega arith) in
            let can = closed line has col k leaves in
            let clue = clue_at-clues_of picture line at.0 in
            let long : col < length can.line = (let e = can.fits.same_length in let l = can.within in omega arith) in
            let P : ℕ → Type 0 = λ n. IsAllowed (clues_of picture) n in
            let free = subst P can.has (allowed picture row can.line col at.0 (can.fits.has_clue ∙ clue) long) in
            (s.left row col k at.0 at.1).1 (((b.left row col k at.0 at.1).0 (w.leaves row col k leaves)).1, (λ _. free));
      }

pub starts_suffice : StartsSuffice
starts_suffice picture givens base start end is b s least = record {
  closed = least.closed;
  holds = within_trans base start end (base_within picture givens is base start b s) least.holds;
  least = λ others closed w. least.least others closed (start_within picture givens is base start others b s closed w);
}

pub pictures_fill : PicturesFillStarts
pictures_fill picture givens start is s = picture_fills picture givens is start s
