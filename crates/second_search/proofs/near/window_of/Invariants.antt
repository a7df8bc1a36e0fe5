use Rattle.second_search.specs.Near.{IsWindow}
use Rattle.second_search.proofs.near.window_of.Given as goal

abbrev pub invariant-loop-row : goal.invariant-loop-row
invariant-loop-row l = IsWindow l.facts l.cells l.window

abbrev pub invariant-loop-col : goal.invariant-loop-col
invariant-loop-col l = IsWindow l.facts l.cells l.window
