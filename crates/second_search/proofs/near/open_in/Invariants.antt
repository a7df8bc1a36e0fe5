use Rattle.second_search.specs.Near.{OpensIn}
use Rattle.second_search.proofs.near.open_in.Given as goal

abbrev pub invariant-loop-row : goal.invariant-loop-row
invariant-loop-row l = OpensIn l.window.cells l.facts l.home l.opened

abbrev pub invariant-loop-col : goal.invariant-loop-col
invariant-loop-col l = OpensIn l.window.cells l.facts l.home l.opened
