-- Grids of one shape, and a cell set and set back.
use Rattle.std.proofs.Common.{◌≡◌, ℕ, ◌<◌, ◌⊎◌, List, [], length, get_or, refl, sym, ap, subst, ◌∙◌, arith, inl, inr}
use Rattle.std.proofs.lemmas.Bool.{cases_eq, cases_lt}
use Rattle.std.proofs.lemmas.List.{ext_get_or, get_or_past}
use Rattle.line_facts.specs.Masks.{Masks}
use Rattle.picture.specs.Rows.{row_at, cell_at, with_cell}
use Rattle.line_facts.specs.FactSets.{SameShape}
use Rattle.line_facts.proofs.GridLaws.{shape_sym, shape_trans, at_with_cell, off_with_cell, shape_with_cell}

-- grids of one shape with the same cells are equal
pub same_grid : (a b : List (List ℕ)) → SameShape a b → ((r c : ℕ) → cell_at a r c ≡ cell_at b r c) → a ≡ b
same_grid a b s h = ext_get_or [] a b s.rows (λ r _. ext_get_or 0 (row_at a r) (row_at b r) (s.each r) (λ c _. h r c))

-- a cell of a row lies in a row that is there
pub row_there : (a : List (List ℕ)) (row col : ℕ) → col < length (row_at a row) → row < length a
row_there a row col l = elim (cases_lt row (length a)) [
  | inl h ↦ h
  | inr p ↦ absurd (let none = ap length (get_or_past a row [] p) in omega arith)
]

-- grids of one shape with the same cells inside are equal
pub same_inside : (a b : List (List ℕ)) (width : ℕ) → SameShape a b → ((i : ℕ) → i < length b → length (row_at b i) ≡ width) → ((r c : ℕ) → r < length b → c < width → cell_at a r c ≡ cell_at b r c)
    → a ≡ b
same_inside a b width s rect h = same_grid a b s (λ r c. elim (cases_lt r (length b)) [
  | inl l ↦ elim (cases_lt c width) [
    | inl m ↦ h r c l m
    | inr p ↦
        let wide = rect r l in
        get_or_past (row_at a r) c 0 (omega arith) ∙ sym (get_or_past (row_at b r) c 0 (omega arith))
  ]
  | inr p ↦
      ap (λ (row : List ℕ). get_or row c 0) (get_or_past a r [] (omega arith)) ∙ sym (ap (λ (row : List ℕ). get_or row c 0) (get_or_past b r [] p))
])

-- where two statements each hold or not, so do both together
pub both_or_not : {A B : Type 0} → A ⊎ (A → ⊥) → B ⊎ (B → ⊥) → (A × B) ⊎ (A × B → ⊥)
both_or_not (inl a) (inl b) = inl (a, b)
both_or_not (inl a) (inr n) = inr (λ p. n p.1)
both_or_not (inr n) b = inr (λ p. n p.0)

-- what holds of the cell that is set, and of each other one as it was, holds of each
pub set_each : (facts : Masks) (row col x : ℕ) → row < length facts → col < length (row_at facts row) → (P : ℕ → ℕ → ℕ → Type 0) → P row col x
    → ((r c : ℕ) → ((r ≡ row) × (c ≡ col) → ⊥) → P r c (cell_at facts r c)) → (r c : ℕ) → P r c (cell_at (with_cell facts row col x) r c)
set_each facts row col x h l P here off r c = elim (both_or_not (cases_eq r row) (cases_eq c col)) [
  | inr d ↦ subst (P r c) (sym (off_with_cell facts row col x r c d)) (off r c d)
  | inl e ↦ rw e.0 (rw e.1 (subst (P row col) (sym (at_with_cell facts row col x h l)) here))
]

-- a cell that is set and set back
pub cell_back : (facts : Masks) (i j x : ℕ) → i < length facts → j < length (row_at facts i) → with_cell (with_cell facts i j x) i j (cell_at facts i j) ≡ facts
cell_back facts i j x h l =
    let one = with_cell facts i j x in
    let shape = shape_with_cell facts i j x in
    let again = shape_with_cell one i j (cell_at facts i j) in
    same_grid (with_cell one i j (cell_at facts i j)) facts (shape_sym (shape_trans shape again))
    (set_each one i j (cell_at facts i j) (omega arith) (omega arith) (λ r c y. y ≡ cell_at facts r c) refl (off_with_cell facts i j x))
