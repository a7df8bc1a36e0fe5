-- The maximal runs of a line, in order. Nothing here is computed from the line.
use Rattle.std.specs.Prelude.{◌≡◌, ◌≢◌, ◌↔◌, ℕ, ◌<◌, List, [], ◌∷◌, ◌++◌, length, replicate}
use Rattle.clues.specs.declared.block.Block.{Block}
use Rattle.clues.specs.Clue.{clue_of}

-- the next cell has another colour, if there is one
abbrev pub HasEnded : ℕ → List ℕ → Type 0
HasEnded colour [] = Unit {0}
HasEnded colour (next ∷ cells) = next ≢ colour

-- A line's first run is a block: before it there is background, it has at least one
-- cell, its colour is not the background, and the rest does not begin with its colour.
pub record IsFirstRun (line : List ℕ) (run : Block) (rest : List ℕ) : Type 0 where
  pub gap : ℕ
  pub cells : line ≡ replicate gap 0 ++ (replicate run.len run.colour ++ rest)
  pub has_cells : 0 < run.len
  pub has_colour : run.colour ≢ 0
  pub has_ended : HasEnded run.colour rest

-- The runs of a line: none where all cells are background, else the first one and those of the rest.
abbrev pub AreRuns : List ℕ → List Block → Type 0
AreRuns line [] = line ≡ replicate (length line) 0
AreRuns line (run ∷ runs) = (rest : List ℕ) × IsFirstRun line run rest × AreRuns rest runs

-- Each line has runs, its clue, and no other list of blocks is its runs.
abbrev pub CluesAreMaximalRuns : Type 0
CluesAreMaximalRuns = (line : List ℕ) (blocks : List Block) → AreRuns line blocks ↔ (blocks ≡ clue_of line)
