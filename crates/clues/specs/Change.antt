-- What an edit changes: which line of the new picture each old line becomes, and which lines may have other cells.
use Rattle.std.specs.Prelude.{◌≡◌, ℕ, ◌<◌, ◌≤◌, ◌⊎◌, List, [], length, slice_index, slice_index_or, Option, Some}
use Rattle.std.specs.Prelude.{option_map}
use Rattle.picture.specs.declared.line_id.Axis.{Axis}
use Rattle.picture.specs.declared.line_id.Axis.TheVariants.{Across, Down}
use Rattle.picture.specs.declared.line_id.LineId.{LineId}
use Rattle.picture.specs.declared.picture.TheConstants.{MAX_SIDE}
use Rattle.picture.specs.CrossingLines.{crossing}
use Rattle.picture.specs.LineSet.{Lines, HasName}
use Rattle.picture.specs.Picture.{IsPicture}
use Rattle.picture.specs.Rows.{lines_along, line_of, line_deleted, width_of, HasLine, Rows}
use Rattle.clues.specs.declared.places.Places.{Places}
use Rattle.clues.specs.declared.places.Places.TheVariants.{Kept}
use Rattle.clues.specs.Places.{new_place, old_place, reversed, count_after, AreAmong, IsNewAt, ChangesLength}
use Rattle.clues.specs.declared.block.Block.{Block}
use Rattle.clues.specs.Clue.{clue_of}
use Rattle.clues.specs.ClueBook.{Clues, clue_at, HasClue}

-- the sizes of the old picture, and how its rows and its columns move
pub record Moves : Type 0 where
  pub height : ℕ
  pub width : ℕ
  pub rows : Places
  pub columns : Places

-- the moves, and the lines of the new picture that are marked as touched
pub record Changes : Type 0 where
  pub moves : Moves
  pub marked : Lines

-- the name of a line along an axis
abbrev pub line_at : Axis → ℕ → LineId
line_at axis at = record { axis = axis; at = at }

abbrev pub places_along : Axis → Moves → Places
places_along Across moves = moves.rows
places_along Down moves = moves.columns

-- how many lines along an axis the old picture has, and the new one
abbrev pub lines_before : Axis → Moves → ℕ
lines_before Across moves = moves.height
lines_before Down moves = moves.width

abbrev pub lines_after : Axis → Moves → ℕ
lines_after axis moves = count_after (places_along axis moves) (lines_before axis moves)

-- the line of the new picture that an old line becomes, if it is not deleted
abbrev pub image_of : Moves → LineId → Option LineId
image_of moves line = option_map (line_at line.axis) (new_place (places_along line.axis moves) line.at)

-- the line of the old picture that a line of the new one was, if it is not inserted
abbrev pub origin_of : Moves → LineId → Option LineId
origin_of moves line = option_map (line_at line.axis) (old_place (places_along line.axis moves) line.at)

-- the line that crosses lines of this axis at the position is its own image
abbrev pub Stays : Moves → Axis → ℕ → Type 0
Stays moves axis position = image_of moves (line_at (crossing axis) position) ≡ Some (line_at (crossing axis) position)

-- the line is inserted, or its length changes, or it is marked
abbrev pub IsTouched : Changes → LineId → Type 0
IsTouched change line =
    IsNewAt (places_along line.axis change.moves) line.at
    ⊎ (ChangesLength (places_along (crossing line.axis) change.moves) ⊎ HasName change.marked line)

abbrev pub moves_from : ℕ → ℕ → Places → Places → Moves
moves_from height width rows columns = record { height = height; width = width; rows = rows; columns = columns }

-- no line moves
abbrev pub still : ℕ → ℕ → Moves
still height width = moves_from height width Kept Kept

-- lines of one axis move
abbrev pub moved_along : Axis → Places → ℕ → ℕ → Moves
moved_along Across places height width = moves_from height width places Kept
moved_along Down places height width = moves_from height width Kept places

-- the sizes are 1 to 120 before and after, and the places in `rows` and `columns` are among the lines
pub record AreMoves (moves : Moves) : Type 0 where
  pub some_before : (axis : Axis) → 0 < lines_before axis moves
  pub fit_before : (axis : Axis) → lines_before axis moves ≤ MAX_SIDE
  pub some_after : (axis : Axis) → 0 < lines_after axis moves
  pub fit_after : (axis : Axis) → lines_after axis moves ≤ MAX_SIDE
  pub among : (axis : Axis) → AreAmong (places_along axis moves) (lines_before axis moves)

-- the moves of the lines back to their old places
abbrev pub back : Moves → Moves
back moves =
    moves_from (lines_after Across moves) (lines_after Down moves) (reversed moves.rows) (reversed moves.columns)

-- a height and a width that a picture can have
pub record IsSize (height width : ℕ) : Type 0 where
  pub has_row : 0 < height
  pub rows_fit : height ≤ MAX_SIDE
  pub has_column : 0 < width
  pub columns_fit : width ≤ MAX_SIDE

-- a picture of this size
pub record HasSize (height width : ℕ) (picture : Rows) : Type 0 where
  pub is_picture : IsPicture picture
  pub row_count : length picture ≡ height
  pub column_count : width_of picture ≡ width

-- two pictures have the sizes before and after
pub record HaveSizes (moves : Moves) (old new : Rows) : Type 0 where
  pub before : (axis : Axis) → lines_along axis old ≡ lines_before axis moves
  pub after : (axis : Axis) → lines_along axis new ≡ lines_after axis moves

-- the line of the new picture is the image of an old line with the same cells
abbrev pub IsOldLine : Moves → Rows → Rows → LineId → Type 0
IsOldLine moves old new line =
    (from : LineId) × HasLine old from × (image_of moves from ≡ Some line) × (line_of new line ≡ line_of old from)

-- the new picture has the sizes that the change gives, and
-- untouched lines have the cells of the old lines that they were
pub record Follows (change : Changes) (old new : Rows) : Type 0 where
  pub sizes : (axis : Axis) → lines_along axis new ≡ lines_after axis change.moves
  pub untouched : (line : LineId) → HasLine new line → (IsTouched change line → ⊥) → IsOldLine change.moves old new line

-- no line is touched that has the cells of the old line that it was
abbrev pub TouchesChanged : Changes → Rows → Rows → Type 0
TouchesChanged change old new =
    (line : LineId) → HasLine new line → IsTouched change line → IsOldLine change.moves old new line → ⊥

-- The change from one picture to another: it has their sizes, and exactly those lines are touched that are inserted,
-- or have other cells than the old lines that they were.
pub record IsChangeOf (change : Changes) (old new : Rows) : Type 0 where
  pub sizes : HaveSizes change.moves old new
  pub follows : Follows change old new
  pub touched : TouchesChanged change old new

-- the new picture without the line is the old one
pub record AgreesOff (line : LineId) (old new : Rows) : Type 0 where
  pub has_line : HasLine new line
  pub off_line : line_deleted new line ≡ old

-- if the line crosses the lines along this axis, its cells in the first and in the second have the same colour
abbrev pub CrossesAlike : Axis → ℕ → ℕ → Rows → LineId → Type 0
CrossesAlike axis first second picture line =
    line.axis ≡ crossing axis → slice_index (line_of picture line) first ≡ slice_index (line_of picture line) second

-- after an exchange, the lines with the cells of the old lines that they were
-- are those along the axis, and those that cross both lines in the same colour
pub record FollowsSwap (axis : Axis) (first second : ℕ) (moves : Moves) (old new : Rows) : Type 0 where
  pub sizes : HaveSizes moves old new
  pub alike : (line : LineId) → HasLine new line → CrossesAlike axis first second old line
      → IsOldLine moves old new line
  pub only : (line : LineId) → HasLine new line → IsOldLine moves old new line → CrossesAlike axis first second old line

-- where no line moves, `IsOldLine` holds of exactly the lines that have the same cells as before
pub record FollowsCells (moves : Moves) (old new : Rows) : Type 0 where
  pub sizes : HaveSizes moves old new
  pub same : (line : LineId) → HasLine new line → line_of new line ≡ line_of old line → IsOldLine moves old new line
  pub only : (line : LineId) → HasLine new line → IsOldLine moves old new line → line_of new line ≡ line_of old line

-- the line of the new picture is the image of an old line that has a clue
abbrev pub HasOldClue : Moves → Clues → LineId → Type 0
HasOldClue moves clues line = (from : LineId) × HasClue clues from × (image_of moves from ≡ Some line)

-- the picture has the sizes that the change gives, and the old lines that untouched lines were have clues
pub record CanRefresh (clues : Clues) (picture : Rows) (change : Changes) : Type 0 where
  pub sizes : (axis : Axis) → lines_along axis picture ≡ lines_after axis change.moves
  pub untouched : (line : LineId) → HasLine picture line → (IsTouched change line → ⊥)
      → HasOldClue change.moves clues line

-- where the line is untouched, the clue is that of the old line that it was
abbrev pub IsOldClue : Changes → Clues → LineId → List Block → Type 0
IsOldClue change clues line clue =
    (IsTouched change line → ⊥) → (from : LineId) → image_of change.moves from ≡ Some line → clue ≡ clue_at clues from

-- where the line is touched, the clue is that of its cells
abbrev pub IsNewClue : Changes → Rows → LineId → List Block → Type 0
IsNewClue change picture line clue = IsTouched change line → clue ≡ clue_of (line_of picture line)

-- each untouched line has the clue of the old line that it was
abbrev pub KeepsClues : Changes → Clues → Clues → Type 0
KeepsClues change old new = (line : LineId) → HasClue new line → IsOldClue change old line (clue_at new line)

-- each touched line has the clue of its cells
abbrev pub CountsClues : Changes → Rows → Clues → Type 0
CountsClues change picture new = (line : LineId) → HasClue new line → IsNewClue change picture line (clue_at new line)

-- P holds of each line along an axis with its clue
abbrev pub EachAlong : Axis → List (List Block) → (LineId → List Block → Type 0) → Type 0
EachAlong axis clues P = (at : ℕ) → at < length clues → P (line_at axis at) (slice_index_or clues at [])
