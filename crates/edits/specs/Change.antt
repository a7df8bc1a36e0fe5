-- What an edit changes: where it moves the lines of a picture, and in which cells two pictures differ.
use Rattle.std.specs.Prelude.{◌≡◌, ◌≢◌, ℕ, ◌<◌, ◌≤◌, List, length, slice_index_or}
use Rattle.picture.specs.declared.line_id.Axis.{Axis}
use Rattle.picture.specs.declared.line_id.LineId.{LineId}
use Rattle.picture.specs.declared.picture.TheConstants.{MAX_SIDE}
use Rattle.picture.specs.Rows.{width_of, cell_at, lines_along, without_line, lines_swapped, Rows}
use Rattle.clues.specs.declared.places.Places.TheVariants.{Inserted, Deleted, Swapped}
use Rattle.clues.specs.Change.{AgreesOff, Moves, moved_along, still}
use Rattle.picture.specs.CrossingLines.{crossing}
use Rattle.clues.specs.Laws.{IsOnLine}
use Rattle.edits.specs.declared.edit.Edit.{Edit}
use Rattle.edits.specs.declared.edit.Edit.TheVariants.{InsertLine, DeleteLine, SwapLines}
use Rattle.edits.specs.Note.{Cell}
use Rattle.edits.specs.Areas.{SameAt}

-- where an edit moves the lines of a picture
abbrev pub moves_of : Edit → Rows → Moves
moves_of (InsertLine line) rows = moved_along line.axis (Inserted line.at) (length rows) (width_of rows)
moves_of (DeleteLine line) rows = moved_along line.axis (Deleted line.at) (length rows) (width_of rows)
moves_of (SwapLines axis first second) rows = moved_along axis (Swapped first second) (length rows) (width_of rows)
moves_of e rows = still (length rows) (width_of rows)

-- the edit that moves lines back
abbrev pub reversed_edit : Edit → Edit
reversed_edit (InsertLine line) = DeleteLine line
reversed_edit (DeleteLine line) = InsertLine line
reversed_edit e = e

abbrev pub nth_cell : List Cell → ℕ → Cell
nth_cell cells k = slice_index_or cells k (0, 0, 0)

-- one of the first n cells lies on the line
abbrev pub IsCrossed : ℕ → List Cell → LineId → Type 0
IsCrossed n cells line = (k : ℕ) × (k < n) × IsOnLine line (nth_cell cells k).0 (nth_cell cells k).1

-- two pictures of one size differ in these cells, and in no other
pub record DifferIn (cells : List Cell) (old new : Rows) : Type 0 where
  pub row_count : length new ≡ length old
  pub column_count : width_of new ≡ width_of old
  pub inside : (k : ℕ) → k < length cells → ((nth_cell cells k).0 < length old) × ((nth_cell cells k).1 < width_of old)
  pub differ : (k : ℕ) → k < length cells
      → cell_at new (nth_cell cells k).0 (nth_cell cells k).1 ≢ cell_at old (nth_cell cells k).0 (nth_cell cells k).1
  pub only : (i j : ℕ) → i < length old → j < width_of old → cell_at new i j ≢ cell_at old i j
      → (k : ℕ) × (k < length cells) × ((nth_cell cells k).0 ≡ i) × ((nth_cell cells k).1 ≡ j)

-- the line crosses two lines of an axis, at a position below n, in cells of different colours
abbrev pub CrossesApart : ℕ → Axis → ℕ → ℕ → Rows → LineId → Type 0
CrossesApart n axis first second rows line =
    (line.axis ≡ crossing axis) × (line.at < n) × (SameAt axis first second rows line.at → ⊥)

-- an edit leads from one picture to the other; where it moves no line, they differ in exactly these cells
abbrev pub Leads : Edit → List Cell → Rows → Rows → Type 0
Leads (InsertLine line) cells old new =
    (line.at ≤ lines_along line.axis old) × (lines_along line.axis old < MAX_SIDE) × AgreesOff line old new
Leads (DeleteLine line) cells old new =
    (line.at < lines_along line.axis old) × (1 < lines_along line.axis old) × (new ≡ without_line line.axis line.at old)
Leads (SwapLines axis first second) cells old new =
    (first < lines_along axis old) × (second < lines_along axis old) × (new ≡ lines_swapped axis first second old)
Leads e cells old new = DifferIn cells old new
