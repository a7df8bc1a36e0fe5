-- Laws of clue books and of what an edit changes.
use Rattle.std.specs.Prelude.{◌≡◌, ℕ, ◌<◌, ◌≤◌, length, Some}
use Rattle.picture.specs.declared.line_id.Axis.{Axis}
use Rattle.picture.specs.declared.line_id.Axis.TheVariants.{Across, Down}
use Rattle.picture.specs.declared.line_id.LineId.{LineId}
use Rattle.picture.specs.Picture.{IsPicture}
use Rattle.picture.specs.Rows.{HasLine, line_inserted, line_of, lines_along, with_cell, Rows}
use Rattle.clues.specs.Clue.{clue_of}
use Rattle.clues.specs.ClueBook.{Clues, HasClue, clue_at, clues_along, clues_of}
use Rattle.clues.specs.Change.{AgreesOff, AreMoves, CanRefresh, Changes, Follows, IsTouched, KeepsClues, Moves}
use Rattle.clues.specs.Change.{back, image_of, lines_after, lines_before}

-- the clues of a picture have one for each line, which is the clue of its cells
pub record CluesAreOfLines : Type 0 where
  pub sizes : (picture : Rows) (axis : Axis) → length (clues_along axis (clues_of picture)) ≡ lines_along axis picture
  pub clues : (picture : Rows) (line : LineId) → HasLine picture line
      → clue_at (clues_of picture) line ≡ clue_of (line_of picture line)

-- clue books of the same size with the same clue for each line are equal
abbrev pub BooksAreTheirClues : Type 0
BooksAreTheirClues =
    (one other : Clues)
    → ((axis : Axis) → length (clues_along axis one) ≡ length (clues_along axis other))
    → ((line : LineId) → HasClue one line → clue_at one line ≡ clue_at other line)
    → one ≡ other

-- No two lines have the same image, an image is a line of the new picture
-- along the same axis, and each untouched line is an image.
pub record ImagesAreLines : Type 0 where
  pub one_to_one : (moves : Moves) (one other to : LineId) → image_of moves one ≡ Some to
      → image_of moves other ≡ Some to → one ≡ other
  pub same_axis : (moves : Moves) (line to : LineId) → image_of moves line ≡ Some to → to.axis ≡ line.axis
  pub inside : (moves : Moves) → AreMoves moves → (line to : LineId) → line.at < lines_before line.axis moves
      → image_of moves line ≡ Some to → to.at < lines_after to.axis moves
  pub untouched : (change : Changes) → AreMoves change.moves → (line : LineId)
      → line.at < lines_after line.axis change.moves → (IsTouched change line → ⊥)
      → (from : LineId) × (from.at < lines_before from.axis change.moves) × (image_of change.moves from ≡ Some line)

-- the reversed moves take each image back to its line, and take nothing else to a line
pub record MovesGoBack : Type 0 where
  pub back_to_line : (moves : Moves) (line to : LineId) → image_of moves line ≡ Some to
      → image_of (back moves) to ≡ Some line
  pub back_from_line : (moves : Moves) (line to : LineId) → image_of (back moves) to ≡ Some line
      → image_of moves line ≡ Some to

-- where each untouched line has the cells of the old line that it was, the
-- old picture's clue book can be refreshed, and its clues for those lines are right
pub record UntouchedCluesStand : Type 0 where
  pub can_refresh : (change : Changes) (old new : Rows) → Follows change old new → CanRefresh (clues_of old) new change
  pub stand : (change : Changes) (old new : Rows) → Follows change old new
      → KeepsClues change (clues_of old) (clues_of new)

-- a cell is on a line
abbrev pub IsAtPlace : Axis → ℕ → ℕ → ℕ → Type 0
IsAtPlace Across at row column = row ≡ at
IsAtPlace Down at row column = column ≡ at

abbrev pub IsOnLine : LineId → ℕ → ℕ → Type 0
IsOnLine line row column = IsAtPlace line.axis line.at row column

-- A picture with a line inserted is the old one but for that line,
-- and still is after any of the line's cells is set.
pub record InsertedLinesAgree : Type 0 where
  pub inserted : (picture : Rows) (line : LineId) → IsPicture picture → line.at ≤ lines_along line.axis picture
      → AgreesOff line picture (line_inserted picture line)
  pub cell_set : (old new : Rows) (line : LineId) (row column colour : ℕ) → IsPicture new → IsOnLine line row column
      → AgreesOff line old new → AgreesOff line old (with_cell new row column colour)
