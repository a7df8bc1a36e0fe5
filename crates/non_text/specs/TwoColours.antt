-- A puzzle that is read is in two colours.
use Rattle.std.specs.Prelude.{◌≡◌, ◌≤◌, ℕ, List, Some, Ok}
use Rattle.picture.specs.Rows.{cell_at, Rows}
use Rattle.clues.specs.ClueBook.{clues_of}
use Rattle.non_text.specs.declared.non_puzzle.NonPuzzle.{NonPuzzle}
use Rattle.non_text.specs.Puzzle.{non_of}

-- the goal has the clues, and no picture with the clues has a colour above 1
pub record IsInTwoColours (puzzle : NonPuzzle) : Type 0 where
  pub goal_fits : (rows : Rows) → puzzle.goal ≡ Some rows → clues_of rows ≡ puzzle.clues
  pub two_colours : (rows : Rows) → clues_of rows ≡ puzzle.clues → (row col : ℕ) → cell_at rows row col ≤ 1

-- each puzzle that a text gives is in two colours
abbrev pub PuzzlesAreInTwoColours : Type 0
PuzzlesAreInTwoColours = (text : List ℕ) (puzzle : NonPuzzle) → non_of text ≡ Ok puzzle → IsInTwoColours puzzle
