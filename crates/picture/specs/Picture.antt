-- A picture as its list of rows, and how the rows lie in one flat list of cells.
use Rattle.std.specs.Prelude.{◌≡◌, ℕ, ◌+◌, ◌*◌, ◌<◌, ◌≤◌, List, ◌++◌, length, take, drop, slice_index}
use Rattle.picture.specs.declared.picture.TheConstants.{MAX_SIDE, MAX_COLOURS}
use Rattle.picture.specs.Rows.{width_of, row_at, cell_at, Rows}

-- what every picture is: at least one row and one column and no more than MAX_SIDE, each cell with one of the colours
pub record IsPicture (rows : Rows) : Type 0 where
  pub has_row : 0 < length rows
  pub rows_fit : length rows ≤ MAX_SIDE
  pub has_column : 0 < width_of rows
  pub columns_fit : width_of rows ≤ MAX_SIDE
  pub rectangular : (i : ℕ) → i < length rows → length (row_at rows i) ≡ width_of rows
  pub colours : (i j : ℕ) → cell_at rows i j < MAX_COLOURS

-- what holds of a picture's cells as one flat list, row after row
pub record AreCells (height width : ℕ) (cells : List ℕ) : Type 0 where
  pub has_row : 0 < height
  pub rows_fit : height ≤ MAX_SIDE
  pub has_column : 0 < width
  pub columns_fit : width ≤ MAX_SIDE
  pub count : length cells ≡ height * width
  pub colours : (k : ℕ) → slice_index cells k < MAX_COLOURS

-- `count` cells from a place on
abbrev pub part : List ℕ → ℕ → ℕ → List ℕ
part cells start count = take count (drop start cells)

-- the cells, overwritten by others from a place on
abbrev pub with_part : List ℕ → ℕ → List ℕ → List ℕ
with_part cells start others = take start cells ++ (others ++ drop (start + length others) cells)
