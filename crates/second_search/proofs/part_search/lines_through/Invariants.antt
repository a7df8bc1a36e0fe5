use Rattle.fixpoint.specs.LineNames.{AreLinesOf}
use Rattle.second_search.specs.Through.{PutsThrough}
use Rattle.second_search.proofs.part_search.lines_through.Given as goal

abbrev pub invariant-loop-row : goal.invariant-loop-row
invariant-loop-row l = record {
  lines : AreLinesOf l.facts l.lines;
  through : PutsThrough l.cells l.facts l.lines l.row;
}
