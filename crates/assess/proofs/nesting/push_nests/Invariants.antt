use Rattle.std.proofs.Common.{◌≡◌, ◌++◌, replicate, reverse}
use Rattle.assess.proofs.nesting.push_nests.Given as goal

abbrev pub invariant-loop-branch : goal.invariant-loop-branch
invariant-loop-branch l = reverse l.nests.items ≡ replicate l.branch l.nest ++ reverse l.fn.nests.items
