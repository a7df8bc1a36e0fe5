use Rattle.second_search.specs.JudgedParts.{HasNoFilling}
use Rattle.second_search.proofs.keeper.Keeper.other.Given as goal

abbrev pub invariant-loop-i : goal.invariant-loop-i
invariant-loop-i l = HasNoFilling l.self l.i
