use Rattle.picture.specs.Rows.{width_of}
use Rattle.second_search.specs.Learning.{HasOff}
use Rattle.second_search.proofs.learning.outside_of.Given as goal

abbrev pub invariant-loop-row : goal.invariant-loop-row
invariant-loop-row l = HasOff l.cells l.row (width_of l.picture) l.outside
