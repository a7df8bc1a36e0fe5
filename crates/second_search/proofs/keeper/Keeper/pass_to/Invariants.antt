use Rattle.second_search.specs.JudgedParts.{Changes}
use Rattle.second_search.proofs.keeper.Keeper.pass_to.Given as goal

abbrev pub invariant-loop-i : goal.invariant-loop-i
invariant-loop-i l = Changes l.fn.self l.self-inside.kept.items l.i
