-- Which lists of colours fit a line: the line's clue, and for each cell a mask of the colours left there.
use Rattle.std.specs.Prelude.{◌≡◌, ℕ, ◌<◌, List, length, slice_index, IsBitSet}
use Rattle.clues.specs.declared.block.Block.{Block}
use Rattle.clues.specs.Clue.{clue_of}

-- a list of colours that has the clue, and in each cell a colour that is left there
pub record Fits (clue : List Block) (left line : List ℕ) : Type 0 where
  pub same_length : length line ≡ length left
  pub has_clue : clue_of line ≡ clue
  pub keeps : (i : ℕ) → i < length left → IsBitSet (slice_index left i) (slice_index line i)

-- some list fits
abbrev pub CanFit : List Block → List ℕ → Type 0
CanFit clue left = (line : List ℕ) × Fits clue left line

-- some list that fits has colour k in cell i
pub record CanHave (clue : List Block) (left : List ℕ) (i k : ℕ) : Type 0 where
  pub line : List ℕ
  pub fits : Fits clue left line
  pub within : i < length left
  pub has : slice_index line i ≡ k

-- no list that fits has colour k in cell i: the line forces this exclusion
abbrev pub Forces : List Block → List ℕ → ℕ → ℕ → Type 0
Forces clue left i k = CanHave clue left i k → ⊥

-- the same line with as many colours left, or fewer
pub record IsTighter (left fewer : List ℕ) : Type 0 where
  pub same_length : length fewer ≡ length left
  pub leaves : (i k : ℕ) → IsBitSet (slice_index fewer i) k → IsBitSet (slice_index left i) k
