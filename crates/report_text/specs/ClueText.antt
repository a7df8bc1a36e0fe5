-- Clues as text: `r 1: 2a 1b` for a row, `c 1: 0` for a column without a block.
use Rattle.std.specs.Prelude.{ℕ, ◌+◌, List, [], ◌∷◌, ◌++◌, map, codes, decimal}
use Rattle.std.specs.List.{enumerate_from, flat_map, join_with_byte}
use Rattle.picture.specs.declared.line_id.Axis.{Axis}
use Rattle.picture.specs.declared.line_id.Axis.TheVariants.{Across, Down}
use Rattle.picture.specs.declared.line_id.LineId.{LineId}
use Rattle.clues.specs.declared.block.Block.{Block}
use Rattle.clues.specs.ClueBook.{Clues}

-- a block as its length and the letter of its colour, `a` for 1 up to `o` for 15
abbrev pub block_text : Block → List ℕ
block_text b = decimal b.len ++ (96 + b.colour) ∷ []

-- a block that follows another one, with a space before it
abbrev pub behind : Block → List ℕ
behind b = 32 ∷ block_text b

-- the blocks with a space between each two, or `0` where there is none
abbrev pub blocks_text : List Block → List ℕ
blocks_text [] = codes "0"
blocks_text (b ∷ blocks) = join_with_byte 32 (map block_text (b ∷ blocks))

-- a letter for the axis, the line's number from 1, and its clue
abbrev pub numbered_clue : ℕ → ℕ → List Block → List ℕ
numbered_clue letter number clue = letter ∷ 32 ∷ (decimal number ++ (codes ": " ++ (blocks_text clue ++ 10 ∷ [])))

-- a line for each clue, numbered from `n` on
unfoldable pub numbered_clues : ℕ → ℕ → List (List Block) → List ℕ
numbered_clues letter n clues = flat_map (λ line. numbered_clue letter line.0 line.1) (enumerate_from n clues)

-- `r` for a row and `c` for a column
abbrev pub letter_of : Axis → ℕ
letter_of Across = 114
letter_of Down = 99

-- the letter and the number of a line, from 1
abbrev pub name_text : LineId → List ℕ
name_text line = letter_of line.axis ∷ 32 ∷ decimal (line.at + 1)

-- the clues of the rows and then of the columns
abbrev pub clues_text : Clues → List ℕ
clues_text clues = numbered_clues (letter_of Across) 1 clues.rows ++ numbered_clues (letter_of Down) 1 clues.columns
