-- A grid of numbers as a list of rows. Pictures are grids of colours.
use Rattle.std.specs.Prelude.{ℕ, zero, suc, ◌<◌, List, [], ◌∷◌, length, take, drop, map, slice_index, slice_index_or}
use Rattle.std.specs.Prelude.{slice_set, insert, remove, swap, replicate}
use Rattle.picture.specs.declared.line_id.Axis.{Axis}
use Rattle.picture.specs.declared.line_id.Axis.TheVariants.{Across, Down}
use Rattle.picture.specs.declared.line_id.LineId.{LineId}

-- a grid of numbers, row after row from the top: of a picture, each cell's colour
abbrev pub Rows : Type 0
Rows = List (List ℕ)

-- a flat list cut into `height` rows of `width` cells
abbrev pub rows_of : ℕ → ℕ → List ℕ → Rows
rows_of zero width cells = []
rows_of (suc height) width cells = take width cells ∷ rows_of height width (drop width cells)

-- how many cells each row has, by the first row
abbrev pub width_of : Rows → ℕ
width_of rows = length (slice_index_or rows 0 [])

-- the row at a place
abbrev pub row_at : Rows → ℕ → List ℕ
row_at rows i = slice_index_or rows i []

-- the cell at a row and a column
abbrev pub cell_at : Rows → ℕ → ℕ → ℕ
cell_at rows i j = slice_index (row_at rows i) j

-- the grid with one cell changed
abbrev pub with_cell : Rows → ℕ → ℕ → ℕ → Rows
with_cell rows i j x = slice_set rows i (slice_set (row_at rows i) j x)

-- a row from the left, or a column from the top
abbrev pub line_along : Axis → ℕ → Rows → List ℕ
line_along Across i rows = row_at rows i
line_along Down j rows = map (λ row. slice_index row j) rows

abbrev pub line_of : Rows → LineId → List ℕ
line_of rows line = line_along line.axis line.at rows

-- how many lines there are along an axis
abbrev pub lines_along : Axis → Rows → ℕ
lines_along Across rows = length rows
lines_along Down rows = width_of rows

-- the line is one of the grid's
abbrev pub HasLine : Rows → LineId → Type 0
HasLine rows line = line.at < lines_along line.axis rows

-- a line of background is inserted at a place, before the line that was there
abbrev pub with_line : Axis → ℕ → Rows → Rows
with_line Across i rows = insert rows i (replicate (width_of rows) 0)
with_line Down j rows = map (λ row. insert row j 0) rows

abbrev pub line_inserted : Rows → LineId → Rows
line_inserted rows line = with_line line.axis line.at rows

-- the line at a place is removed
abbrev pub without_line : Axis → ℕ → Rows → Rows
without_line Across i rows = remove rows i
without_line Down j rows = map (λ row. remove row j) rows

abbrev pub line_deleted : Rows → LineId → Rows
line_deleted rows line = without_line line.axis line.at rows

-- two lines are exchanged
abbrev pub lines_swapped : Axis → ℕ → ℕ → Rows → Rows
lines_swapped Across i j rows = swap rows i j
lines_swapped Down i j rows = map (λ row. swap row i j) rows
