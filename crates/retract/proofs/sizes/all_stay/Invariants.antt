use Rattle.std.proofs.Common.{ℕ, ◌<◌}
use Rattle.clues.specs.Change.{Stays}
use Rattle.retract.proofs.sizes.all_stay.Given as goal

abbrev pub invariant-loop-place : goal.invariant-loop-place
invariant-loop-place l = (i : ℕ) → i < l.place → Stays l.change.moves l.axis i
