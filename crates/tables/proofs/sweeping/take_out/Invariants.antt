use Rattle.std.proofs.Common.{ℕ, ◌<◌, get_or}
use Rattle.std.specs.Prelude.{IsBitSet}
use Rattle.tables.proofs.sweeping.take_out.Given as goal

abbrev pub invariant-loop-i : goal.invariant-loop-i
invariant-loop-i l = (j k : ℕ) → j < l.i → IsBitSet (get_or l.drawn j 0) k → IsBitSet (get_or l.out j 0) k → ⊥
