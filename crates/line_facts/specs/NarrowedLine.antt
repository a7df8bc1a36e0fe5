-- What narrowing a line gives.
use Rattle.std.specs.Prelude.{◌≡◌, ℕ, List, length, slice_index, IsBitSet, ◌↔◌}
use Rattle.clues.specs.declared.block.Block.{Block}
use Rattle.line_facts.specs.declared.line_engine.Outcome.{Outcome}
use Rattle.line_facts.specs.declared.line_engine.Outcome.TheVariants.{Narrowed, Dead}
use Rattle.line_facts.specs.Fits.{CanFit, CanHave}

-- The outcome says whether some list fits, and each cell has exactly the colours
-- that some list that fits has there; where none fits, every cell is empty.
pub record Narrows (clue : List Block) (left : List ℕ) (outcome : Outcome) (out : List ℕ) : Type 0 where
  pub same_length : length out ≡ length left
  pub fits : (outcome ≡ Narrowed) ↔ CanFit clue left
  pub exact : (i k : ℕ) → IsBitSet (slice_index out i) k ↔ CanHave clue left i k
  pub empty : outcome ≡ Dead → (i : ℕ) → slice_index out i ≡ 0
