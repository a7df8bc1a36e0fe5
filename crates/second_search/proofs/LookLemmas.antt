-- Settled facts and the picture that they show.
use Rattle.std.proofs.Common.{◌≡◌, ℕ, ◌+◌, ◌<◌, List, length, get_or, refl, sym, ap, subst, ◌∙◌, arith, inl, inr}
use Rattle.std.specs.Prelude.{IsBitSet}
use Rattle.std.proofs.lemmas.Bool.{cases_eq, cases_lt}
use Rattle.std.proofs.lemmas.List.{get_or_past}
use Rattle.picture.specs.LineSet.{Lines}
use Rattle.picture.specs.Rows.{width_of, row_at, cell_at, with_cell, Rows}
use Rattle.clues.specs.ClueBook.{Clues, clues_of}
use Rattle.line_facts.specs.Masks.{IsOnly, Masks}
use Rattle.line_facts.specs.FactSets.{IsFacts, IsWithin, SameShape}
use Rattle.line_facts.specs.declared.line_engine.Outcome.{Outcome}
use Rattle.line_facts.specs.declared.line_engine.Outcome.TheVariants.{Narrowed}
use Rattle.fixpoint.specs.ClosedFacts.{Closes, EachFits, KeepsOtherLines}
use Rattle.fixpoint.specs.Fillings.{Fills, only}
use Rattle.fixpoint.specs.Laws.{OnlyIsClosed}
use Rattle.trail.specs.Trail.{AreOthersSame}
use Rattle.second_search.specs.SettledFacts.{AreRowsSettled, ShowOthers, Shows}
use Rattle.second_search.specs.Through.{across}
use Rattle.line_facts.proofs.GridLaws.{shape_sym, shape_trans, at_with_cell, off_with_cell, shape_with_cell}
use Rattle.picture.proofs.BitLaws.{bit_below, no_bit}
use Rattle.trail.proofs.GridLemmas.{same_inside, row_there}

pub only_small : (facts : Masks) (row col k : ℕ) → IsFacts facts → IsOnly (cell_at facts row col) k → k < 16
only_small facts row col k is h = bit_below (cell_at facts row col) 16 k (is.masks row col) ((h k).1 refl)

-- what holds of each place below n, and of n, holds of each place below n + 1
pub below_next : (P : ℕ → Type 0) (n : ℕ) → ((i : ℕ) → i < n → P i) → P n → (i : ℕ) → i < n + 1 → P i
below_next P n h here i l = elim (cases_eq i n) [
  | inl e ↦ subst P (sym e) here
  | inr d ↦ h i (omega arith)
]

-- ---- one more cell shown

pub shape_shown : (facts : Masks) (picture : Rows) (row col colour : ℕ) → SameShape picture facts → SameShape (with_cell picture row col colour) facts
shape_shown facts picture row col colour s = shape_trans (shape_sym (shape_with_cell picture row col colour)) s

pub more_shown : (facts : Masks) (picture : Rows) (row col colour : ℕ) → IsFacts facts → SameShape picture facts → row < length facts → col < width_of facts → IsOnly (cell_at facts row col) colour
    → ((c : ℕ) → c < col → IsOnly (cell_at facts row c) (cell_at picture row c)) → (c : ℕ) → c < col + 1 → IsOnly (cell_at facts row c) (cell_at (with_cell picture row col colour) row c)
more_shown facts picture row col colour is s h l only before = below_next (λ c. IsOnly (cell_at facts row c) (cell_at (with_cell picture row col colour) row c)) col
    (λ c m.
    rw (off_with_cell picture row col colour row c (λ p. absurd (let e = p.1 in omega arith))) (before c m))
    (let P : ℕ → Type 0 = λ x. IsOnly (cell_at facts row col) x in
    subst P (sym (at_with_cell picture row col colour (omega arith) (omega arith))) only)

pub others_shown : (first : Masks) (picture : Rows) (row col colour : ℕ) → ((r c : ℕ) → (r ≡ row → ⊥) → cell_at picture r c ≡ cell_at first r c) → (r c : ℕ) → (r ≡ row → ⊥)
    → cell_at (with_cell picture row col colour) r c ≡ cell_at first r c
others_shown first picture row col colour h r c n = off_with_cell picture row col colour r c (λ p. n p.0) ∙ h r c n

-- ---- the picture shown

-- what fills settled facts is the picture that they show
pub one_filling : (clues : Clues) (facts : Masks) (picture other : Rows) → IsFacts facts → Shows facts picture → Fills clues facts other → other ≡ picture
one_filling clues facts picture other is s f =
    same_inside other picture (width_of picture) (shape_trans f.same_shape (shape_sym s.same_shape)) s.is_picture.rectangular (λ r c h l.
    (s.only r c (omega arith) (omega arith) (cell_at other r c)).0 (f.leaves r c (omega arith)))

pub shown_fills : (clues : Clues) (facts : Masks) (picture : Rows) → IsFacts facts → Shows facts picture → clues_of picture ≡ clues → Fills clues facts picture
shown_fills clues facts picture is s e = record {
  is_picture = s.is_picture;
  same_shape = s.same_shape;
  has_clues = e;
  leaves = λ row col l.
      let there = row_there picture row col l in
      let h : row < length facts = omega arith in
      (s.only row col h (omega arith) (cell_at picture row col)).1 refl;
}

-- ---- before closing

-- a cell with just one colour left keeps it where facts exclude more and some list fits its row
stays_only : (clues : Clues) (facts settled : Masks) (row col k : ℕ) → IsWithin facts settled → EachFits clues settled → IsOnly (cell_at facts row col) k → IsOnly (cell_at settled row col) k
stays_only clues facts settled row col k w fits only = elim (cases_lt col (length (row_at settled row))) [
  | inr p ↦ absurd (
      no_bit k (subst (λ (x : ℕ). IsBitSet x k) (get_or_past (row_at facts row) col 0 (omega arith)) ((only k).1 refl)))
  | inl l ↦
      let list = fits (across row) (row_there settled row col l) in
      let there = list.1.keeps col l in
      let e = (only (get_or list.0 col 0)).0 (w.leaves row col (get_or list.0 col 0) there) in
      λ j. ((λ s. (only j).0 (w.leaves row col j s)), (λ f. subst (λ (x : ℕ). IsBitSet (cell_at settled row col) x) (e ∙ sym f) there))
]

-- rows that show only a picture's colours still do where facts exclude more and some list fits each row
pub others_settled : (clues : Clues) (picture : Rows) (facts settled : Masks) (rows : Lines) → IsWithin facts settled → EachFits clues settled → ShowOthers picture rows facts
    → ShowOthers picture rows settled
others_settled clues picture facts settled rows w fits h r col out l m =
    stays_only clues facts settled r col (cell_at picture r col) w fits (h r col out (omega arith) (omega arith))

-- rows that are settled stay so where facts are closed and some list fits each line
pub rows_stay : (clues : Clues) (facts first settled : Masks) (outcome : Outcome) (rows : ℕ) → first ≡ facts → Closes clues first settled outcome → outcome ≡ Narrowed → AreRowsSettled facts rows
    → AreRowsSettled settled rows
rows_stay clues facts first settled outcome rows same c e h r col l w =
    let within : IsWithin facts settled = subst (λ (x : List (List ℕ)). IsWithin x settled) same c.holds in
    let at = h r col l (omega arith) in
    (at.0, stays_only clues facts settled r col at.0 within (c.fits e) at.1)

-- rows that show only a picture's colours stay so, too
pub others_stay : (clues : Clues) (picture : Rows) (facts first settled : Masks) (outcome : Outcome) (rows : Lines) → first ≡ facts → Closes clues first settled outcome → outcome ≡ Narrowed
    → ShowOthers picture rows facts → ShowOthers picture rows settled
others_stay clues picture facts first settled outcome rows same c e h =
    others_settled clues picture facts settled rows (subst (λ (x : List (List ℕ)). IsWithin x settled) same c.holds) (c.fits e) h

-- rows of lines that are the same
pub others_same : (facts settled : Masks) (lines : Lines) → KeepsOtherLines facts settled lines → AreOthersSame facts settled lines
others_same facts settled lines kept r col l out = ap (λ (row : List ℕ). get_or row col 0) (sym (kept (across r) out))

-- a cell of the facts that leave only a picture's colours
pub only_there : OnlyIsClosed → (picture : Rows) (row col : ℕ) → col < length (row_at picture row) → IsOnly (cell_at (only picture) row col) (cell_at picture row col)
only_there law picture row col l j = ((λ s. ((law.leaves picture row col j).0 s).1), (λ e. (law.leaves picture row col j).1 (l, e)))
