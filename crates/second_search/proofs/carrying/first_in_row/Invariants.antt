use Rattle.std.proofs.Common.{ℕ, ◌<◌}
use Rattle.picture.specs.CellSet.{HasCell}
use Rattle.second_search.proofs.carrying.first_in_row.Given as goal

abbrev pub invariant-loop-col : goal.invariant-loop-col
invariant-loop-col l = (col : ℕ) → col < l.col → HasCell l.cells l.row col → ⊥
