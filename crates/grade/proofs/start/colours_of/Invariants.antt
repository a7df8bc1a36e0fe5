use Rattle.std.proofs.Common.{◌≡◌, ℕ, ◌<◌, ◌↔◌, get_or}
use Rattle.std.specs.Prelude.{IsBitSet}
use Rattle.clues.specs.Clue.{block}
use Rattle.grade.proofs.start.colours_of.Given as goal

abbrev pub invariant-loop-block : goal.invariant-loop-block
invariant-loop-block l = (k : ℕ) → IsBitSet l.colours k ↔ ((i : ℕ) × (i < l.block-index) × ((get_or l.block-items i (block 0 0)).colour ≡ k))
