-- Leaving out the exclusions that a line does not need to force some others.
use Rattle.std.specs.Prelude.{◌≡◌, ℕ, ◌<◌, ◌⊎◌, List, length, slice_index, slice_set, IsBitSet}
use Rattle.clues.specs.declared.block.Block.{Block}
use Rattle.line_facts.specs.Fits.{CanHave, Forces}
use Rattle.line_facts.specs.Masks.{all_sixteen}

-- the line forces each exclusion that is drawn: in each cell, each colour of its mask in `drawn`
abbrev pub ForcesAll : List Block → List ℕ → List ℕ → Type 0
ForcesAll clue left drawn = (i k : ℕ) → IsBitSet (slice_index drawn i) k → Forces clue left i k

-- the line does not force some exclusion that is drawn: a list that fits has the colour there
pub record Misses (clue : List Block) (left drawn : List ℕ) : Type 0 where
  pub place : ℕ
  pub colour : ℕ
  pub is_drawn : IsBitSet (slice_index drawn place) colour
  pub has : CanHave clue left place colour

-- Each cell has its old mask or all sixteen colours, and the line still forces all that is drawn. No further cell can
-- get all sixteen: the line would then not force something that is drawn.
pub record LeavesOut (clue : List Block) (drawn old new : List ℕ) : Type 0 where
  pub same_length : length new ≡ length old
  pub each : (i : ℕ) → i < length old → (slice_index new i ≡ slice_index old i) ⊎ (slice_index new i ≡ all_sixteen)
  pub forced : ForcesAll clue new drawn
  pub needed : (i : ℕ) → i < length old → (slice_index new i ≡ all_sixteen → ⊥)
      → Misses clue (slice_set new i all_sixteen) drawn
