-- Cells in order, row by row.
use Rattle.std.proofs.Common.{◌≡◌, ◌⊎◌, ℕ, ◌+◌, ◌<◌, ◌≤◌, List, arith, inl, inr}
use Rattle.std.proofs.lemmas.Bool.{cases_eq}
use Rattle.picture.specs.CellSet.{HasCell}
use Rattle.picture.specs.Document.{AreInside}
use Rattle.picture.specs.Rows.{width_of, Rows}
use Rattle.assess.specs.Spares.{ComesBefore}

pub none_before : (r c : ℕ) → ComesBefore r c 0 0 → ⊥
none_before r c (inl l) = absurd (omega arith)
none_before r c (inr (e, l)) = absurd (omega arith)

pub before_next : (r c row col : ℕ) → ComesBefore r c row (col + 1) → ComesBefore r c row col ⊎ ((r ≡ row) × (c ≡ col))
before_next r c row col (inl l) = inl (inl l)
before_next r c row col (inr (e, l)) = elim (cases_eq c col) [ inl same ↦ inr (e, same) | inr d ↦ inl (inr (e, (let m : c < col = omega arith in m))) ]

-- what comes before the next row comes before the end of this one
pub row_ended : (picture : Rows) (givens : List ℕ) (row col r c : ℕ) → AreInside givens picture → width_of picture ≤ col → ComesBefore r c (row + 1) 0 → HasCell givens r c → ComesBefore r c row col
row_ended picture givens row col r c inside w (inl l) g =
    let i = (inside r c g).1 in
    elim (cases_eq r row) [ inl e ↦ inr (e, (let m : c < col = omega arith in m)) | inr d ↦ inl (let m : r < row = omega arith in m) ]
row_ended picture givens row col r c inside w (inr (e, l)) g = absurd (omega arith)
