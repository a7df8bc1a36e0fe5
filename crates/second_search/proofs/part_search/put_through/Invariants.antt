use Rattle.fixpoint.specs.LineNames.{AreLinesOf}
use Rattle.second_search.specs.Through.{PutsRow}
use Rattle.second_search.proofs.part_search.put_through.Given as goal

abbrev pub invariant-loop-col : goal.invariant-loop-col
invariant-loop-col l = record {
  lines : AreLinesOf l.facts l.lines;
  puts : PutsRow l.cells l.row l.col l.fn.lines l.lines;
}
