use Rattle.second_search.specs.JudgedParts.{StartsWith}
use Rattle.second_search.proofs.keeper.Keeper.start.Given as goal

abbrev pub invariant-loop-i : goal.invariant-loop-i
invariant-loop-i l = StartsWith l.parts-inside.parts.items l.kept.items l.i
