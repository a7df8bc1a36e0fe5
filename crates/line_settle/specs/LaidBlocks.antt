-- Blocks laid on a line by sets of positions, and the states of a clue's pattern after its blocks.
use Rattle.std.specs.Prelude.{◌≡◌, ℕ, zero, suc, ◌+◌, ◌<◌, ◌≤◌, List, [], ◌∷◌, Bool, false, cond, ◌==◌, ◌&&◌, ◌||◌}
use Rattle.std.specs.Prelude.{length, slice_index, drop}
use Rattle.std.specs.List.{All}
use Rattle.clues.specs.declared.block.Block.{Block}
use Rattle.line_settle.specs.Patterns.{pattern_of, finishes, advances, reaches, passes_below}
use Rattle.line_facts.specs.BitSets.{has}
use Rattle.line_settle.specs.Positions.{IsCellsWith}

-- the n cells from position i on are in `cells`, and the position after them is in `ends`
abbrev pub lays : ℕ → ℕ → ℕ → ℕ → Bool
lays cells ends zero i = has ends i
lays cells ends (suc n) i = has cells i && lays cells ends n (i + 1)

-- position i is n cells after a position of a set
abbrev pub moved : ℕ → ℕ → ℕ → Bool
moved starts zero i = has starts i
moved starts (suc n) zero = false
moved starts (suc n) (suc i) = moved starts n i

-- position i is fewer than n cells after a position of a set
abbrev pub covers : ℕ → ℕ → ℕ → Bool
covers starts zero i = false
covers starts (suc n) i = covers starts n i || moved starts n i

-- block j has the colour of the block before it; `last` is the colour before the first
abbrev pub meets : ℕ → List Block → ℕ → Bool
meets last [] j = false
meets last (b ∷ bs) zero = b.colour == last
meets last (b ∷ bs) (suc j) = meets b.colour bs j

-- how many cells of background a block must have before it
abbrev pub gap_before : Bool → ℕ
gap_before is_gap = cond is_gap 1 0

-- the state of a pattern after the first j blocks
abbrev pub state_behind : ℕ → List Block → ℕ → ℕ
state_behind last bs zero = 0
state_behind last [] (suc j) = 0
state_behind last (b ∷ bs) (suc j) = gap_before (b.colour == last) + b.len + state_behind b.colour bs j

-- the state in which a line waits for block j
abbrev pub state_before : List Block → ℕ → ℕ
state_before blocks j = state_behind 0 blocks j + gap_before (meets 0 blocks j)

-- `allowed` has, by colour, the cells in which the background is left, and those in which each block's colour is left
pub record IsAllowed (blocks : List Block) (left allowed : List ℕ) : Type 0 where
  pub background : IsCellsWith left 0 (slice_index allowed 0)
  pub each : All (λ b. IsCellsWith left b.colour (slice_index allowed b.colour)) blocks

-- a set has exactly the positions from which a line that is in state q can go to its end
abbrev pub IsBack : List ℕ → List ℕ → ℕ → ℕ → Type 0
IsBack pattern left q places = (i : ℕ) → i ≤ length left → has places i ≡ finishes pattern (drop i left) q

-- a set has exactly those from which it can do so by reading the pattern's next cell at once
abbrev pub IsStart : List ℕ → List ℕ → ℕ → ℕ → Type 0
IsStart pattern left q places = (i : ℕ) → i ≤ length left
    → has places i ≡ advances pattern (slice_index left i) (finishes pattern (drop (i + 1) left)) q

-- for each block the positions from which a line can go to its end by laying the block there, and those from which it
-- can by laying it there or later; after the last block, those from which background can fill the line to its end
pub record AreMarked (blocks : List Block) (left starting waiting : List ℕ) : Type 0 where
  pub starts : (j : ℕ) → j < length blocks
      → IsStart (pattern_of blocks) left (state_before blocks j) (slice_index starting j)
  pub waits : (j : ℕ) → j ≤ length blocks
      → IsBack (pattern_of blocks) left (state_before blocks j) (slice_index waiting j)

-- `seen` has, by colour, the positions before the cells in which a line can have that colour
abbrev pub AreSeen : List Block → List ℕ → List ℕ → Type 0
AreSeen blocks left seen = (i k : ℕ) → i < length left → has (slice_index seen k) i
    ≡ passes_below (pattern_of blocks) (slice_index left i) (reaches (pattern_of blocks) left i)
    (finishes (pattern_of blocks) (drop (i + 1) left)) (length (pattern_of blocks)) k
