-- A document as its parts, seen cell by cell.
use Rattle.std.specs.Prelude.{◌≡◌, ℕ, ◌^◌, ◌<◌, List, length, map, slice_index, bit_and, if◌then◌else◌, ◌==◌}
use Rattle.std.specs.List.{range_with_len}
use Rattle.picture.specs.declared.document.Document.{Document}
use Rattle.picture.specs.Palette.{Colours, IsPalette}
use Rattle.picture.specs.Picture.{IsPicture}
use Rattle.picture.specs.Document.{AreColoured}
use Rattle.picture.specs.Rows.{width_of, row_at, cell_at, Rows}

-- a grid of marks: 1 in each cell that is a given, else 0
abbrev pub Marks : Type 0
Marks = List (List ℕ)

-- the colours by number, the rows of cells, and rows of marks: 1 where a cell is a given, else 0
pub record Design : Type 0 where
  pub colours : Colours
  pub rows : Rows
  pub marks : Marks

abbrev pub design : Colours → Rows → Marks → Design
design colours rows marks = record { colours = colours; rows = rows; marks = marks }

-- the grid of this height and width with a value for each place
unfoldable pub grid : ℕ → ℕ → (ℕ → ℕ → ℕ) → Rows
grid height width value = map (λ i. map (λ j. value i j) (range_with_len 0 width)) (range_with_len 0 height)

-- 1 where a set of cells, a mask for each row, has a cell, else 0
abbrev pub mark_at : List ℕ → ℕ → ℕ → ℕ
mark_at masks i j = if bit_and (slice_index masks i) (2 ^ j) == 0 then 0 else 1

-- the marks of a set of givens, in a picture of this height and width
abbrev pub marks_of : ℕ → ℕ → List ℕ → Marks
marks_of height width givens = grid height width (mark_at givens)

abbrev pub design_of : Document → Design
design_of d = design d.palette d.picture (marks_of (length d.picture) (width_of d.picture) d.givens)

-- a grid of this height and width
pub record IsGrid (height width : ℕ) (rows : Rows) : Type 0 where
  pub row_count : length rows ≡ height
  pub row_lengths : (i : ℕ) → i < height → length (row_at rows i) ≡ width

-- what holds of every document
pub record IsDesign (d : Design) : Type 0 where
  pub is_palette : IsPalette d.colours
  pub is_picture : IsPicture d.rows
  pub is_coloured : AreColoured d.rows d.colours
  pub are_marks : (i j : ℕ) → cell_at d.marks i j < 2
  pub marks_fit : IsGrid (length d.rows) (width_of d.rows) d.marks
