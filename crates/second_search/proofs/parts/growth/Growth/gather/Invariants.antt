use Rattle.second_search.proofs.GrowLemmas.{Gathering}
use Rattle.second_search.proofs.parts.growth.Growth.gather.Given as goal

abbrev pub invariant-loop-i : goal.invariant-loop-i
invariant-loop-i l = Gathering l.facts l.line l.fn.self l.self l.i
