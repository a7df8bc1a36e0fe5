use Rattle.second_search.specs.Learning.{PutsOutside}
use Rattle.second_search.proofs.learning.put_outside.Given as goal

abbrev pub invariant-loop-col : goal.invariant-loop-col
invariant-loop-col l = PutsOutside l.cells l.row l.col l.fn.outside l.outside
