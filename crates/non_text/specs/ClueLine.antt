-- A clue as a line of numbers.
use Rattle.std.specs.Prelude.{ℕ, Bool, false, ◌+◌, ◌-◌, List, [], ◌∷◌, length, map, sum, Result, Ok, Err, nat_le, ◌==◌}
use Rattle.std.specs.Prelude.{if◌then◌else◌}
use Rattle.std.specs.Option.{ok_or}
use Rattle.std.specs.List.{slice_split, list_any}
use Rattle.picture.specs.Readers.{◌>>=◌}
use Rattle.clues.specs.declared.block.Block.{Block}
use Rattle.clues.specs.Clue.{block}
use Rattle.non_text.specs.declared.fault.NonFault.{NonFault}
use Rattle.non_text.specs.declared.fault.NonFault.TheVariants.{BadClue, ClueTooLong}
use Rattle.non_text.specs.Bytes.{trimmed}
use Rattle.picture.specs.Numbers.{number_spelled}
use Rattle.non_text.specs.Lines.{is_blank_line}

-- the number in each of the pieces between commas
abbrev pub numbers_in : List (List ℕ) → Result (List ℕ) NonFault
numbers_in [] = Ok []
numbers_in (place ∷ places) = do
  n ← ok_or (number_spelled (trimmed place)) BadClue
  ns ← numbers_in places
  Ok (n ∷ ns)

abbrev pub is_lone_zero : List ℕ → Bool
is_lone_zero (n ∷ []) = n == 0
is_lone_zero numbers = false

abbrev pub has_zero : List ℕ → Bool
has_zero numbers = list_any (λ n. n == 0) numbers

-- how many cells blocks of these lengths take, with a cell between two of them
abbrev pub cells_needed : List ℕ → ℕ
cells_needed lengths = sum lengths + (length lengths - 1)

-- a block in the only colour
abbrev pub black : ℕ → Block
black len = block len 1

-- the clue that numbers give, for a line of `cells` cells: a single 0 is the empty clue, and any other 0 an error
unfoldable pub clue_from : ℕ → List ℕ → Result (List Block) NonFault
clue_from cells numbers =
    if is_lone_zero numbers then Ok []
    else (if has_zero numbers then Err BadClue
    else (if nat_le (cells_needed numbers) cells then Ok (map black numbers) else Err ClueTooLong))

-- the clue that a line of text gives, for a line of `cells` cells
unfoldable pub clue_in : ℕ → List ℕ → Result (List Block) NonFault
clue_in cells line = if is_blank_line line then Ok [] else (do
  numbers ← numbers_in (slice_split (λ b. b == 44) line)
  clue_from cells numbers)

-- the clues that the lines give, or the first error from the top
unfoldable pub clues_in : ℕ → List (List ℕ) → Result (List (List Block)) NonFault
clues_in cells [] = Ok []
clues_in cells (line ∷ lines) = do
  clue ← clue_in cells line
  clues ← clues_in cells lines
  Ok (clue ∷ clues)
