use Rattle.second_search.specs.Through.{LeavesRowAlone}
use Rattle.second_search.proofs.part_search.leave_row_alone.Given as goal

abbrev pub invariant-loop-col : goal.invariant-loop-col
invariant-loop-col l = LeavesRowAlone l.cells l.picture l.fn.facts l.facts l.row l.col
