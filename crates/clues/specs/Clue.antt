-- The clue of a line: its runs of equal cells, without the background.
use Rattle.std.specs.Prelude.{ℕ, zero, suc, ◌+◌, ◌<◌, List, [], ◌∷◌, if◌then◌else◌, ◌==◌, refl, ◌≡◌}
use Rattle.std.specs.List.{All}
use Rattle.clues.specs.declared.block.Block.{Block}

abbrev pub block : ℕ → ℕ → Block
block len colour = record { len = len; colour = colour }

-- the first block one cell longer
abbrev pub longer : List Block → List Block
longer [] = []
longer (b ∷ bs) = block (b.len + 1) b.colour ∷ bs

-- the clue of a cell of colour x and the cells of `rest`, whose clue is `blocks`
abbrev pub joined : ℕ → List ℕ → List Block → List Block
joined x [] blocks = block 1 x ∷ blocks
joined x (y ∷ rest) blocks = if x == y then longer blocks else (block 1 x ∷ blocks)

-- the clue of a list of colours, 0 being the background
abbrev pub clue_of : List ℕ → List Block
clue_of [] = []
clue_of (zero ∷ rest) = clue_of rest
clue_of (suc x ∷ rest) = joined (suc x) rest (clue_of rest)

-- `aab.` has the clue 2a 1b, and `a.a` has 1a 1a
two_colours : clue_of (1 ∷ 1 ∷ 2 ∷ 0 ∷ []) ≡ block 2 1 ∷ block 1 2 ∷ []
two_colours = refl

one_colour : clue_of (1 ∷ 0 ∷ 1 ∷ []) ≡ block 1 1 ∷ block 1 1 ∷ []
one_colour = refl

-- a block has at least one cell, and a colour from 1 to 15
pub record IsBlock (b : Block) : Type 0 where
  pub has_cells : 0 < b.len
  pub has_colour : 0 < b.colour
  pub in_palette : b.colour < 16

abbrev pub IsClue : List Block → Type 0
IsClue blocks = All IsBlock blocks

-- a run as a list of blocks: none where it is background
abbrev pub blocks_of : ℕ → ℕ → List Block
blocks_of len colour = if colour == 0 then [] else (block len colour ∷ [])
