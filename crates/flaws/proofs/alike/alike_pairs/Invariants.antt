use Rattle.std.proofs.Common.{◌≡◌}
use Rattle.flaws.specs.Alike.{alike_below}
use Rattle.flaws.proofs.alike.alike_pairs.Given as goal

abbrev pub invariant-loop-i : goal.invariant-loop-i
invariant-loop-i l = l.pairs.items ≡ alike_below l.i l.document.palette l.document.picture
