-- the two lines are alike so far
use Rattle.std.proofs.Common.{ℕ, ◌<◌}
use Rattle.edits.specs.Design.{design_of}
use Rattle.edits.specs.Areas.{AreAlikeAt}
use Rattle.edits.proofs.idle.are_alike.Given as goal

abbrev pub invariant-loop-position : goal.invariant-loop-position
invariant-loop-position l = (k : ℕ) → k < l.position → AreAlikeAt l.axis l.first l.second (design_of l.document) k
