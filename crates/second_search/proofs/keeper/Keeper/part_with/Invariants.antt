use Rattle.std.proofs.Common.{ℕ, ◌<◌}
use Rattle.picture.specs.CellSet.{HasCell}
use Rattle.second_search.specs.JudgedParts.{cells_at}
use Rattle.second_search.proofs.keeper.Keeper.part_with.Given as goal

abbrev pub invariant-loop-i : goal.invariant-loop-i
invariant-loop-i l = (i : ℕ) → i < l.i → HasCell (cells_at l.self i) l.cell.row l.cell.col → ⊥
