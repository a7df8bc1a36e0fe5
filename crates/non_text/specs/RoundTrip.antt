-- The text that is written for a picture, read again.
use Rattle.std.specs.Prelude.{◌≡◌, Ok, Some}
use Rattle.picture.specs.Rows.{Rows}
use Rattle.clues.specs.ClueBook.{clues_of}
use Rattle.non_text.specs.declared.non_puzzle.NonPuzzle.{NonPuzzle}
use Rattle.non_text.specs.Puzzle.{non_of}
use Rattle.non_text.specs.Written.{non_text_of}

-- the clues of a picture, with the picture as the goal
abbrev pub puzzle_with : Rows → NonPuzzle
puzzle_with rows = record { clues = clues_of rows; goal = Some rows }

-- the text of the picture is read as its clues, with the picture as the goal
abbrev pub IsReadAgain : Rows → Type 0
IsReadAgain rows = non_of (non_text_of rows) ≡ Ok (puzzle_with rows)
