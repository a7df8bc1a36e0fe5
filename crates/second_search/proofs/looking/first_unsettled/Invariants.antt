use Rattle.second_search.specs.SettledFacts.{AreRowsSettled}
use Rattle.second_search.proofs.looking.first_unsettled.Given as goal

abbrev pub invariant-loop-row : goal.invariant-loop-row
invariant-loop-row l = AreRowsSettled l.facts l.row
