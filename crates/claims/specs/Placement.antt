-- A clue as blocks that are placed on a line. Cells are counted from 0, and past its end there is background.
use Rattle.std.specs.Prelude.{◌≡◌, ◌≢◌, ◌↔◌, ℕ, ◌+◌, ◌<◌, ◌≤◌, List, get_or, map}
use Rattle.std.specs.List.{All, AllPairs, Any}
use Rattle.clues.specs.declared.block.Block.{Block}
use Rattle.clues.specs.Clue.{clue_of}

-- a block, and the first cell that it covers
pub record Placed : Type 0 where
  pub start : ℕ
  pub block : Block

-- the cell after the last one
abbrev pub end_of : Placed → ℕ
end_of placed = placed.start + placed.block.len

pub record Covers (cell : ℕ) (placed : Placed) : Type 0 where
  pub from : placed.start ≤ cell
  pub below : cell < end_of placed

-- A block covers at least one cell, and each cell that it covers has its colour, which is not the background.
pub record StandsOn (line : List ℕ) (placed : Placed) : Type 0 where
  pub has_cells : 0 < placed.block.len
  pub has_colour : placed.block.colour ≢ 0
  pub cells : (cell : ℕ) → Covers cell placed → get_or line cell 0 ≡ placed.block.colour

-- One block ends before another begins; there is a cell between them if they have the same colour.
pub record AreApart (one other : Placed) : Type 0 where
  pub in_order : end_of one ≤ other.start
  pub has_gap : one.block.colour ≡ other.block.colour → end_of one < other.start

-- Blocks that stand on a line in order and apart, and cover all cells but the background.
pub record IsPlacement (line : List ℕ) (blocks : List Placed) : Type 0 where
  pub stand : All (StandsOn line) blocks
  pub apart : AllPairs AreApart blocks
  pub covered : (cell : ℕ) → get_or line cell 0 ≢ 0 → Any (Covers cell) blocks

-- the blocks can be placed on the line
abbrev pub CanBePlaced : List ℕ → List Block → Type 0
CanBePlaced line blocks = (placed : List Placed) × IsPlacement line placed × (map (λ p. p.block) placed ≡ blocks)

-- The clue of a line can be placed on it, and no other list of blocks can.
abbrev pub CluesCanBePlaced : Type 0
CluesCanBePlaced = (line : List ℕ) (blocks : List Block) → CanBePlaced line blocks ↔ (blocks ≡ clue_of line)
