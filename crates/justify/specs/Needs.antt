-- The premises that a line needs for what it draws, found among all that is excluded on it.
use Rattle.std.specs.Prelude.{ℕ, ◌<◌, ◌↔◌, List, length, slice_index, IsBitSet}
use Rattle.clues.specs.declared.block.Block.{Block}
use Rattle.justify.specs.declared.premise.Premise.{Premise}
use Rattle.justify.specs.Premises.{ArePremises, Mentions, Says, SaysBut}
use Rattle.justify.specs.Exclusions.{CanHaveWithout, ForcesFrom}

-- without the premises of one cell, something that the masks `drawn` have is not forced
pub record DrawsLess (clue : List Block) (cells : ℕ) (drawn : List ℕ) (premises : List Premise)
    (cell : ℕ) : Type 0 where
  pub place : ℕ
  pub colour : ℕ
  pub is_drawn : IsBitSet (slice_index drawn place) colour
  pub can_have : CanHaveWithout clue cells (SaysBut premises cell) place colour

-- the premises for a line with the masks `left`: each has all colours that are excluded in its
-- cell, together they force all that `drawn` has, and none of their cells can be left out
pub record AreNeeded (clue : List Block) (left drawn : List ℕ) (premises : List Premise) : Type 0 where
  pub are : ArePremises premises
  pub inside : (i : ℕ) → Mentions premises i → i < length left
  pub whole : (i k : ℕ) → Mentions premises i → Says premises i k ↔ ((k < 16) × (IsBitSet (slice_index left i) k → ⊥))
  pub forced : (i k : ℕ) → IsBitSet (slice_index drawn i) k → ForcesFrom clue (length left) (Says premises) i k
  pub trimmed : (cell : ℕ) → Mentions premises cell → DrawsLess clue (length left) drawn premises cell
