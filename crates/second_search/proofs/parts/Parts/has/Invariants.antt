use Rattle.std.proofs.Common.{ℕ, ◌<◌}
use Rattle.picture.specs.CellSet.{HasCell}
use Rattle.second_search.specs.Parts.{part_at}
use Rattle.second_search.proofs.parts.Parts.has.Given as goal

abbrev pub invariant-loop-part : goal.invariant-loop-part
invariant-loop-part l = (i : ℕ) → i < l.part-index → HasCell (part_at l.self i) l.cell.row l.cell.col → ⊥
