use Rattle.second_search.specs.CarriedParts.{KnowsNothing}
use Rattle.second_search.proofs.keeper.Keeper.knows_nothing.Given as goal

abbrev pub invariant-loop-i : goal.invariant-loop-i
invariant-loop-i l = KnowsNothing l.self l.i
