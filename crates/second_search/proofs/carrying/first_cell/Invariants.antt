use Rattle.std.proofs.Common.{ℕ, ◌<◌}
use Rattle.picture.specs.CellSet.{HasCell}
use Rattle.picture.specs.Rows.{width_of}
use Rattle.second_search.proofs.carrying.first_cell.Given as goal

abbrev pub invariant-loop-row : goal.invariant-loop-row
invariant-loop-row l = (row col : ℕ) → row < l.row → col < width_of l.facts → HasCell l.cells row col → ⊥
