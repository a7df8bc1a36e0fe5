-- Givens by their numbers, as certificates and proofs write them.
use Rattle.std.specs.Prelude.{◌≡◌, ◌⊎◌, ℕ, ◌+◌, ◌*◌, ◌<◌, ◌↔◌, List, ◌++◌}
use Rattle.std.specs.List.{AllByRecursion, Contains}
use Rattle.picture.specs.Rows.{Rows}
use Rattle.picture.specs.CellSet.{HasCell}
use Rattle.cert_text.specs.declared.cert_line.CellNumber.{CellNumber}
use Rattle.cert_text.specs.Cert.{AreOrdered}
use Rattle.cert_check.specs.Puzzle.{HasCellNumber, numbered}

-- exactly the cells of a set, by their numbers, in the order of rows
pub record NamesGivens (picture : Rows) (givens : List ℕ) (cells : List CellNumber) : Type 0 where
  pub ordered : AreOrdered 0 cells
  pub inside : AllByRecursion (HasCellNumber picture) cells
  pub named : (row col : ℕ) → HasCell givens row col ↔ Contains cells (numbered row col)

-- the givens of the rows before a row, and in it those before a column
pub record NamesUpTo (givens : List ℕ) (row col : ℕ) (cells : List CellNumber) : Type 0 where
  pub ordered : (more : List CellNumber) → AreOrdered ((row + 1) * 1000 + (col + 1)) more → AreOrdered 0 (cells ++ more)
  pub named : (r c : ℕ) → Contains cells (numbered r c) ↔ (HasCell givens r c × ((r < row) ⊎ ((r ≡ row) × (c < col))))
  pub real : (cell : CellNumber) → Contains cells cell → (r : ℕ) × ((c : ℕ) × (cell ≡ numbered r c))
