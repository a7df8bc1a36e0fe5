-- What a tree proves is true: no other picture is left by its facts.
use Rattle.std.proofs.Common.{◌≡◌, ℕ, ◌-◌, ◌^◌, ◌<◌, ◌⊎◌, List, [], ◌∷◌, length, get_or, sym, ap, subst, ◌∙◌, arith, inl, inr}
use Rattle.std.specs.Prelude.{IsBitSet}
use Rattle.std.specs.List.{AllByRecursion}
use Rattle.std.proofs.lemmas.Bool.{cases_lt}
use Rattle.std.proofs.lemmas.List.{ext_get_or, get_or_past, length-map}
use Rattle.line_facts.specs.Masks.{Masks}
use Rattle.picture.specs.declared.line_id.Axis.{Axis}
use Rattle.picture.specs.declared.line_id.Axis.TheVariants.{Across, Down}
use Rattle.picture.specs.declared.line_id.LineId.{LineId}
use Rattle.picture.specs.Picture.{IsPicture}
use Rattle.picture.specs.Rows.{width_of, row_at, cell_at, line_along, line_of, lines_along, with_cell, HasLine, Rows}
use Rattle.picture.proofs.BitLaws.{no_bit, power_has}
use Rattle.clues.proofs.BookLaws.{clue_at-clues_of}
use Rattle.clues.specs.ClueBook.{Clues, clue_at, clues_of}
use Rattle.line_facts.specs.FactSets.{IsOn, IsWithin, Leaves, SameShape, col_on, nothing_excluded, row_on}
use Rattle.line_facts.specs.Fits.{CanHave, Fits}
use Rattle.line_facts.proofs.FitLaws.{have_left}
use Rattle.line_facts.proofs.ForceLaws.{on_or_not}
use Rattle.line_facts.proofs.GridLaws.{all_left, cell_on, full_shape, same_has_line, same_line_length, shape_sym, shape_trans, shape_with_cell}
use Rattle.line_facts.specs.Branches.{colours_of, held}
use Rattle.trail.proofs.ColourLemmas.{Among, among_left}
use Rattle.trail.proofs.GridLemmas.{set_each}
use Rattle.cert_text.specs.declared.cert_line.LineNumber.{LineNumber}
use Rattle.cert_text.specs.declared.cert_line.CellNumber.{CellNumber}
use Rattle.cert_text.specs.Cert.{Certificate}
use Rattle.cert_check.specs.Puzzle.{HasCellNumber, HasLineNumber, IsForced, IsNamed, IsUnique, ShowsOnly, base_of, line_id, split_at}
use Rattle.cert_check.specs.Tree.{Tree, Trees, done, dead, forced, split, none, more, Proves, EachProves, IsProof}
use Rattle.cert_check.proofs.BaseLemmas.{givens_shape, open_stays}

-- ---- pictures that facts leave

-- in each cell of a picture its colour is left
pub record Keeps (facts : Masks) (other : Rows) : Type 0 where
  pub same_shape : SameShape other facts
  pub leaves : (row col : ℕ) → col < length (row_at other row) → Leaves facts row col (cell_at other row col)

-- a picture with the clues of the known one
pub record IsRival (picture other : Rows) : Type 0 where
  pub is_picture : IsPicture other
  pub same_shape : SameShape picture other
  pub has_clues : clues_of other ≡ clues_of picture

along_inside : (axis : Axis) (at i : ℕ) (picture : Rows) → IsPicture picture → at < lines_along axis picture → i < length (line_along axis at picture)
    → col_on axis at i < length (row_at picture (row_on axis at i))
along_inside Across at i picture is h l = l
along_inside Down at i picture is h l =
    let m = length-map picture (λ (row : List ℕ). get_or row at 0) in
    let r = is.rectangular i (omega arith) in
    omega arith

-- a line of the picture fits that line of the facts
pub fits_line : (picture : Rows) (facts : Masks) (other : Rows) (line : LineId) → IsRival picture other → HasLine facts line → Keeps facts other
    → Fits (clue_at (clues_of picture) line) (line_of facts line) (line_of other line)
fits_line picture facts other line rival has k =
    let here = same_has_line facts other line (shape_sym k.same_shape) has in
    let len = same_line_length other facts line k.same_shape in
    let P : Clues → Type 0 = λ c. Fits (clue_at c line) (line_of facts line) (line_of other line) in
    subst P rival.has_clues (record {
      same_length = sym len;
      has_clue = sym (clue_at-clues_of other line here);
      keeps = λ j l.
          let q = along_inside line.axis line.at j other rival.is_picture here (omega arith) in
          let left = k.leaves (row_on line.axis line.at j) (col_on line.axis line.at j) q in
          rw (cell_on other line j) (rw (cell_on facts line j) left);
    })

-- the colour of a cell, found in a line through it
pub at_place : (rows : Rows) (line : LineId) (row col : ℕ) (on : IsOn line row col) → cell_at rows row col ≡ get_or (line_of rows line) on.0 0
at_place rows line row col on = ap (λ r. cell_at rows r col) on.1 ∙ (ap (λ c. cell_at rows (row_on line.axis line.at on.0) c) on.2 ∙ sym (cell_on rows line on.0))

-- the picture's line has its colour there
can_have : (picture : Rows) (facts : Masks) (other : Rows) (line : LineId) (row col : ℕ) (on : IsOn line row col) → IsRival picture other → HasLine facts line → Keeps facts other
    → Leaves facts row col (cell_at other row col) → CanHave (clue_at (clues_of picture) line) (line_of facts line) on.0 (cell_at other row col)
can_have picture facts other line row col on rival has k left =
    let P : ℕ → Type 0 = λ m. IsBitSet m (cell_at other row col) in
    let there = subst P (at_place facts line row col on) left in
    record {
      line = line_of other line;
      fits = fits_line picture facts other line rival has k;
      within = elim (cases_lt on.0 (length (line_of facts line))) [
        | inl l ↦ l
        | inr p ↦ absurd (no_bit (cell_at other row col) (subst P (get_or_past (line_of facts line) on.0 0 p) there))
      ];
      has = sym (at_place other line row col on);
    }

-- what a line forces does not exclude the picture
pub forced_keeps : (picture : Rows) (facts gained : Masks) (other : Rows) (line : LineId) → IsRival picture other → HasLine facts line
    → IsForced picture facts line gained → Keeps facts other → Keeps gained other
forced_keeps picture facts gained other line rival has g k = record {
  same_shape = shape_trans k.same_shape g.same_shape;
  leaves = λ row col l.
      let P : ℕ → Type 0 = λ m. IsBitSet m (cell_at other row col) in
      let left = k.leaves row col l in
      elim (on_or_not line row col) [
        | inl on ↦ subst P (sym (at_place gained line row col on)) ((g.exact on.0 (cell_at other row col)).1 (can_have picture facts other line row col on rival has k left))
        | inr off ↦ subst P (sym (g.elsewhere row col off)) left
      ];
}

-- what a line forces excludes all that was excluded before
pub forced_within : (picture : Rows) (facts gained : Masks) (line : LineId) → IsForced picture facts line gained → IsWithin facts gained
forced_within picture facts gained line f = record {
  same_shape = f.same_shape;
  leaves = λ row col k s.
      let P : ℕ → Type 0 = λ m. IsBitSet m k in
      elim (on_or_not line row col) [
        | inl on ↦ subst P (sym (at_place facts line row col on)) (have_left ((f.exact on.0 k).0 (subst P (at_place gained line row col on) s)))
        | inr off ↦ subst P (f.elsewhere row col off) s
      ];
}

-- ---- the branches of a cell

abbrev pub KeepsSome : List (List (List ℕ)) → Rows → Type 0
KeepsSome [] other = ⊥
KeepsSome (facts ∷ others) other = Keeps facts other ⊎ KeepsSome others other

held_keeps : (facts : Masks) (other : Rows) (row col k : ℕ) → row < length facts → col < length (row_at facts row) → Keeps facts other → cell_at other row col ≡ k
    → Keeps (with_cell facts row col (2 ^ k)) other
held_keeps facts other row col k h l keeps e = record {
  same_shape = shape_trans keeps.same_shape (shape_with_cell facts row col (2 ^ k));
  leaves = set_each facts row col (2 ^ k) h l (λ r c x. c < length (row_at other r) → IsBitSet x (cell_at other r c)) (λ m. (power_has k (cell_at other row col)).1 e) (λ r c d. keeps.leaves r c);
}

some_held : (facts : Masks) (other : Rows) (row col : ℕ) → row < length facts → col < length (row_at facts row) → Keeps facts other → (ks : List ℕ) → Among ks (cell_at other row col)
    → KeepsSome (held facts row col ks) other
some_held facts other row col h l keeps [] a = absurd a
some_held facts other row col h l keeps (k ∷ ks) a = elim a [
  | inl e ↦ inl (held_keeps facts other row col k h l keeps e)
  | inr m ↦ inr (some_held facts other row col h l keeps ks m)
]

pub split_keeps : (picture : Rows) (facts : Masks) (other : Rows) (cell : CellNumber) → IsRival picture other → HasCellNumber picture cell → Keeps facts other → KeepsSome (split_at facts cell) other
split_keeps picture facts other cell rival has keeps =
    let row = cell.row - 1 in
    let col = cell.col - 1 in
    let rows = rival.same_shape.rows in
    let tall = keeps.same_shape.rows in
    let columns = rival.same_shape.each 0 in
    let wide = keeps.same_shape.each row in
    let r = rival.is_picture.rectangular row (omega arith) in
    let inside : col < length (row_at other row) = omega arith in
    some_held facts other row col (omega arith) (omega arith) keeps (colours_of (cell_at facts row col))
    (among_left (cell_at facts row col) (cell_at other row col) (rival.is_picture.colours row col) (keeps.leaves row col inside))

-- ---- trees

pub line_there : (picture : Rows) (facts : Masks) (number : LineNumber) → SameShape picture facts → HasLineNumber picture number → HasLine facts (line_id number)
line_there picture facts number shape has = same_has_line picture facts (line_id number) shape (let l : number.number - 1 < lines_along number.axis picture = omega arith in l)

pub shows_it : (picture : Rows) (facts : Masks) (other : Rows) → SameShape picture other → ShowsOnly picture facts → Keeps facts other → other ≡ picture
shows_it picture facts other shape shows keeps =
    ext_get_or [] other picture (sym shape.rows)
    (λ row _. ext_get_or 0 (row_at other row) (row_at picture row) (sym (shape.each row)) (λ col l. shows row col (cell_at other row col) (keeps.leaves row col l)))

mutual
  sound : (picture other : Rows) → IsRival picture other → (tree : Tree) (facts : Masks) → Proves picture facts tree → Keeps facts other → other ≡ picture
  sound picture other rival done facts p keeps = shows_it picture facts other rival.same_shape p keeps
  sound picture other rival (dead number) facts p keeps =
      let has = line_there picture facts number (shape_trans rival.same_shape keeps.same_shape) p.0 in
      absurd (p.1 (line_of other (line_id number), fits_line picture facts other (line_id number) rival has keeps))
  sound picture other rival (forced number tree) facts p keeps =
      let has = line_there picture facts number (shape_trans rival.same_shape keeps.same_shape) p.0 in
      sound picture other rival tree p.1.0 p.1.1.1 (forced_keeps picture facts p.1.0 other (line_id number) rival has p.1.1.0 keeps)
  sound picture other rival (split cell trees) facts p keeps = each_sound picture other rival trees (split_at facts cell) p.1 (split_keeps picture facts other cell rival p.0 keeps)

  each_sound : (picture other : Rows) → IsRival picture other → (trees : Trees) (all : List (List (List ℕ))) → EachProves picture all trees → KeepsSome all other → other ≡ picture
  each_sound picture other rival none [] p some = absurd some
  each_sound picture other rival none (facts ∷ others) p some = absurd p
  each_sound picture other rival (more tree trees) [] p some = absurd p
  each_sound picture other rival (more tree trees) (facts ∷ others) p (inl keeps) = sound picture other rival tree facts p.0 keeps
  each_sound picture other rival (more tree trees) (facts ∷ others) p (inr some) = each_sound picture other rival trees others p.1 some

-- ---- the root

row_is_there : (other : Rows) (row col : ℕ) → col < length (row_at other row) → row < length other
row_is_there other row col l = elim (cases_lt row (length other)) [
  | inl h ↦ h
  | inr p ↦ let e = ap (λ (r : List ℕ). length r) (get_or_past other row [] p) in absurd (omega arith)
]

pub base_keeps : (picture other : Rows) (cells : List CellNumber) → IsPicture picture → IsRival picture other → AllByRecursion (HasCellNumber picture) cells
    → ((row col : ℕ) → IsNamed cells row col → cell_at other row col ≡ cell_at picture row col) → Keeps (base_of picture cells) other
base_keeps picture other cells is rival has keeps = record {
  same_shape = shape_trans (shape_sym rival.same_shape) (givens_shape picture (nothing_excluded (length picture) (width_of picture)) cells (full_shape picture is));
  leaves = λ row col l.
      let h = row_is_there other row col l in
      let rows = rival.same_shape.rows in
      let e = rival.same_shape.each row in
      let r = is.rectangular row (omega arith) in
      open_stays picture (nothing_excluded (length picture) (width_of picture)) cells has row col (cell_at other row col) (keeps row col)
      (all_left (length picture) (width_of picture) row col (cell_at other row col) (omega arith) (omega arith) (rival.is_picture.colours row col));
}

-- where there is a proof, there is no other picture
pub proof_is_unique : (picture : Rows) (cert : Certificate) → IsPicture picture → IsProof picture cert → IsUnique picture cert.givens
proof_is_unique picture cert is p other s =
    let shape : SameShape picture other = record { rows = sym s.rows; each = λ i. sym (s.columns i) } in
    let rival : IsRival picture other = record { is_picture = s.is_picture; same_shape = shape; has_clues = s.has_clues } in
    sound picture other rival p.tree (base_of picture cert.givens) p.proves (base_keeps picture other cert.givens is rival p.inside s.keeps_givens)
