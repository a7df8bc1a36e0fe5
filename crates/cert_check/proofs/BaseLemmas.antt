-- The facts of givens, cell by cell.
use Rattle.std.proofs.Common.{◌≡◌, ◌⊎◌, ℕ, ◌+◌, ◌-◌, ◌^◌, ◌<◌, List, [], ◌∷◌, length, ap, subst, sym, ◌∙◌, arith, inl, inr}
use Rattle.std.specs.Prelude.{IsBitSet}
use Rattle.std.specs.List.{AllByRecursion, Contains}
use Rattle.std.proofs.lemmas.Bool.{cases_eq, cases_lt}
use Rattle.std.proofs.lemmas.List.{get_or_past}
use Rattle.line_facts.specs.Masks.{Masks}
use Rattle.picture.specs.Rows.{row_at, cell_at, Rows}
use Rattle.line_facts.specs.FactSets.{Leaves, SameShape, with_given}
use Rattle.line_facts.proofs.GridLaws.{at_with_cell, off_with_cell, shape_with_cell}
use Rattle.picture.proofs.BitLaws.{no_bit, power_has}
use Rattle.cert_text.specs.declared.cert_line.CellNumber.{CellNumber}
use Rattle.cert_check.proofs.AmongLemmas.{among_cases, among_first, among_rest}
use Rattle.cert_check.specs.Puzzle.{HasCellNumber, numbered, with_givens}

-- a colour is left only inside the grid
pub left_inside : (facts : Masks) (row col k : ℕ) → Leaves facts row col k → (row < length facts) × (col < length (row_at facts row))
left_inside facts row col k l = elim (cases_lt row (length facts)) [
  | inr p ↦ absurd (no_bit k (rw (get_or_past facts row [] p) at l))
  | inl h ↦ elim (cases_lt col (length (row_at facts row))) [
    | inr p ↦ absurd (no_bit k (rw (get_or_past (row_at facts row) col 0 p) at l))
    | inl w ↦ (h, w)
  ]
]

-- the facts with one given's cell held to the picture's colour
abbrev once : Rows → Masks → CellNumber → List (List ℕ)
once picture facts cell = with_given picture facts (cell.row - 1) (cell.col - 1)

-- a place is that of a cell, or it is not
pub at_or_off : (r c : ℕ) (cell : CellNumber) → ((r ≡ cell.row - 1) × (c ≡ cell.col - 1)) ⊎ ((r ≡ cell.row - 1) × (c ≡ cell.col - 1) → ⊥)
at_or_off r c cell = elim (cases_eq r (cell.row - 1)) [
  | inr n ↦ inr (λ p. n p.0)
  | inl e ↦ elim (cases_eq c (cell.col - 1)) [ inl f ↦ inl (e, f) | inr n ↦ inr (λ p. n p.1) ]
]

at_once : (picture : Rows) (facts : Masks) (cell : CellNumber) (k : ℕ) → Leaves (once picture facts cell) (cell.row - 1) (cell.col - 1) k → k ≡ cell_at picture (cell.row - 1) (cell.col - 1)
at_once picture facts cell k l =
    let row = cell.row - 1 in
    let col = cell.col - 1 in
    let p = cell_at picture row col in
    let inside = left_inside (once picture facts cell) row col k l in
    let s = shape_with_cell facts row col (2 ^ p) in
    let w = s.each row in
    (power_has p k).0 (rw (at_with_cell facts row col (2 ^ p) (omega arith) (omega arith)) at l)

-- one given leaves the picture's colour there, and elsewhere what was left
left_once : (picture : Rows) (facts : Masks) (cell : CellNumber) (r c k : ℕ) → Leaves (once picture facts cell) r c k → Leaves facts r c k ⊎ (k ≡ cell_at picture r c)
left_once picture facts cell r c k l = elim (at_or_off r c cell) [
  | inl p ↦ inr (rw (p.0, p.1) (at_once picture facts cell k (rw (p.0, p.1) at l)))
  | inr n ↦ let P : ℕ → Type 0 = λ m. IsBitSet m k in inl (subst P (off_with_cell facts (cell.row - 1) (cell.col - 1) (2 ^ cell_at picture (cell.row - 1) (cell.col - 1)) r c n) l)
]

pub left_or_given : (picture : Rows) (facts : Masks) (cells : List CellNumber) (r c k : ℕ) → Leaves (with_givens picture cells facts) r c k → Leaves facts r c k ⊎ (k ≡ cell_at picture r c)
left_or_given picture facts [] r c k l = inl l
left_or_given picture facts (cell ∷ cells) r c k l = elim (left_or_given picture (once picture facts cell) cells r c k l) [
  | inl h ↦ left_once picture facts cell r c k h
  | inr e ↦ inr e
]

-- in a given only the picture's colour is left
pub given_left : (picture : Rows) (facts : Masks) (cells : List CellNumber) (r c k : ℕ) → Contains cells (numbered r c) → Leaves (with_givens picture cells facts) r c k → k ≡ cell_at picture r c
given_left picture facts [] r c k m l = absurd (let q = m.1 in omega arith)
given_left picture facts (cell ∷ cells) r c k m l = elim (among_cases (numbered r c) cell cells m) [
  | inr rest ↦ given_left picture (once picture facts cell) cells r c k rest l
  | inl e ↦ elim (left_or_given picture (once picture facts cell) cells r c k l) [
    | inr f ↦ f
    | inl h ↦
        let row : r + 1 ≡ cell.row = ap (λ (x : CellNumber). x.row) e in
        let col : c + 1 ≡ cell.col = ap (λ (x : CellNumber). x.col) e in
        let a : r ≡ cell.row - 1 = omega arith in
        let b : c ≡ cell.col - 1 = omega arith in
        rw (a, b) (at_once picture facts cell k (rw (a, b) at h))
  ]
]

-- what is left stays left, but for the other colours of a given
open_once : (picture : Rows) (facts : Masks) (cell : CellNumber) (r c k : ℕ) → (((r ≡ cell.row - 1) × (c ≡ cell.col - 1)) → k ≡ cell_at picture r c) → Leaves facts r c k
    → Leaves (once picture facts cell) r c k
open_once picture facts cell r c k h l = elim (at_or_off r c cell) [
  | inr n ↦ let P : ℕ → Type 0 = λ m. IsBitSet m k in subst P (sym (off_with_cell facts (cell.row - 1) (cell.col - 1) (2 ^ cell_at picture (cell.row - 1) (cell.col - 1)) r c n)) l
  | inl p ↦
      let row = cell.row - 1 in
      let col = cell.col - 1 in
      let inside = rw (p.0, p.1) at (left_inside facts r c k l) in
      rw (p.0, p.1, at_with_cell facts row col (2 ^ cell_at picture row col) inside.0 inside.1) ((power_has (cell_at picture row col) k).1 (rw (p.0, p.1) at (h p)))
]

pub open_stays : (picture : Rows) (facts : Masks) (cells : List CellNumber) → AllByRecursion (HasCellNumber picture) cells → (r c k : ℕ)
    → (Contains cells (numbered r c) → k ≡ cell_at picture r c) → Leaves facts r c k → Leaves (with_givens picture cells facts) r c k
open_stays picture facts [] has r c k h l = l
open_stays picture facts (cell ∷ cells) has r c k h l =
    open_stays picture (once picture facts cell) cells has.1 r c k (λ m. h (among_rest (numbered r c) cell cells m))
    (open_once picture facts cell r c k (λ p. h (among_first (numbered r c) cell cells (number_is p.0 p.1))) l)
  where
    number_is : r ≡ cell.row - 1 → c ≡ cell.col - 1 → numbered r c ≡ cell
    number_is e f =
        let a : r + 1 ≡ cell.row = (let q = has.0.0 in omega arith) in
        let b : c + 1 ≡ cell.col = (let q = has.0.2 in omega arith) in
        ap (λ (x : ℕ). let it : CellNumber = record { row = x; col = c + 1 } in it) a ∙ ap (λ (y : ℕ). let it : CellNumber = record { row = cell.row; col = y } in it) b

-- givens change no size
pub givens_shape : (picture : Rows) (facts : Masks) (cells : List CellNumber) → SameShape picture facts → SameShape picture (with_givens picture cells facts)
givens_shape picture facts [] s = s
givens_shape picture facts (cell ∷ cells) s =
    let t = shape_with_cell facts (cell.row - 1) (cell.col - 1) (2 ^ cell_at picture (cell.row - 1) (cell.col - 1)) in
    givens_shape picture (once picture facts cell) cells (record { rows = s.rows ∙ t.rows; each = λ i. s.each i ∙ t.each i })
