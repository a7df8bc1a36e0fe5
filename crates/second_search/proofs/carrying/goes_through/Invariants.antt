use Rattle.std.proofs.Common.{ℕ, ◌<◌}
use Rattle.picture.specs.CellSet.{HasCell}
use Rattle.line_facts.specs.FactSets.{col_on, row_on}
use Rattle.second_search.proofs.carrying.goes_through.Given as goal

abbrev pub invariant-loop-i : goal.invariant-loop-i
invariant-loop-i l = (k : ℕ) → k < l.i → HasCell l.cells (row_on l.line.axis l.line.at k) (col_on l.line.axis l.line.at k) → ⊥
