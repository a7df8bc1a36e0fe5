-- What is kept of an edit, and the document before it.
use Rattle.std.specs.Prelude.{◌≡◌, ℕ, zero, suc, List, [], ◌∷◌, ◌++◌, length, map, slice_get, refl, Option, Some, None}
use Rattle.std.specs.Prelude.{◌==◌, if◌then◌else◌, ◌<◌}
use Rattle.picture.specs.declared.line_id.Axis.{Axis}
use Rattle.picture.specs.declared.line_id.Axis.TheVariants.{Across, Down}
use Rattle.picture.specs.declared.line_id.LineId.{LineId}
use Rattle.picture.specs.declared.rgb.Rgb.{Rgb}
use Rattle.picture.specs.Palette.{Colours, with_triple, without_last}
use Rattle.picture.specs.Rows.{width_of, cell_at, with_cell, with_line, without_line, lines_swapped, Rows}
use Rattle.edits.specs.declared.edit.Edit.{Edit}
use Rattle.edits.specs.declared.edit.Edit.TheVariants.{Paint, Fill, Recolour, InsertLine, DeleteLine, SwapLines}
use Rattle.edits.specs.declared.edit.Edit.TheVariants.{AddColour, SetColour, Pin, Unpin}
use Rattle.edits.specs.declared.entry.Entry.{Entry}
use Rattle.edits.specs.Design.{Design, design, IsDesign, Marks}
use Rattle.edits.specs.Edit.{colour_after, edited}
use Rattle.edits.specs.Fault.{edit_fault}

-- a cell with its row, its column and a value
abbrev pub Cell : Type 0
Cell = ℕ × ℕ × ℕ

-- what is kept of an edit: an entry with its vectors as lists
pub record Note : Type 0 where
  pub edit : Edit
  pub cells : List Cell
  pub triple : Option Rgb
  pub givens : List (ℕ × ℕ)

abbrev pub note : Edit → List Cell → Option Rgb → List (ℕ × ℕ) → Note
note e cells triple givens = record { edit = e; cells = cells; triple = triple; givens = givens }

abbrev pub note_of : Entry → Note
note_of entry = note entry.edit entry.cells.items entry.triple entry.givens.items

-- the lists of the first n places, one after another
unfoldable pub joined : {X : Type 0} → (ℕ → List X) → ℕ → List X
joined f zero = []
joined f (suc n) = joined f n ++ f n

-- the cell with its old colour, if the edit changes it
abbrev pub changed_cell : Edit → Rows → ℕ → ℕ → List Cell
changed_cell e rows i j =
    if colour_after e i j (cell_at rows i j) == cell_at rows i j then [] else ((i, j, cell_at rows i j) ∷ [])

-- the cells of a row, and of a picture, that an edit changes, in row order with their old colours
abbrev pub changed_in_row : Edit → Rows → ℕ → List Cell
changed_in_row e rows i = joined (changed_cell e rows i) (width_of rows)

abbrev pub changed_cells : Edit → Rows → List Cell
changed_cells e rows = joined (changed_in_row e rows) (length rows)

-- the row and the column of a position along a line
abbrev pub place_on : Axis → ℕ → ℕ → ℕ × ℕ
place_on Across at k = (at, k)
place_on Down at k = (k, at)

abbrev pub cell_on : Rows → ℕ × ℕ → Cell
cell_on rows place = (place.0, place.1, cell_at rows place.0 place.1)

abbrev pub given_on : Marks → ℕ × ℕ → List (ℕ × ℕ)
given_on marks place = if cell_at marks place.0 place.1 == 0 then [] else (place ∷ [])

-- how many cells the lines of an axis have
abbrev pub cells_along : Axis → Rows → ℕ
cells_along Across rows = width_of rows
cells_along Down rows = length rows

-- the cells of a line
abbrev pub cells_of_line : Rows → LineId → List Cell
cells_of_line rows line = joined (λ k. cell_on rows (place_on line.axis line.at k) ∷ []) (cells_along line.axis rows)

-- the givens of a line
abbrev pub givens_of_line : Marks → LineId → List (ℕ × ℕ)
givens_of_line marks line = joined (λ k. given_on marks (place_on line.axis line.at k)) (cells_along line.axis marks)

abbrev pub cells_kept : Rows → Edit → List Cell
cells_kept rows (Paint row col colour) = changed_cells (Paint row col colour) rows
cells_kept rows (Fill top left bottom right colour) = changed_cells (Fill top left bottom right colour) rows
cells_kept rows (Recolour source target) = changed_cells (Recolour source target) rows
cells_kept rows (DeleteLine line) = cells_of_line rows line
cells_kept rows e = []

abbrev pub triple_kept : Colours → Edit → Option Rgb
triple_kept colours (SetColour colour rgb) = slice_get colours.triples colour
triple_kept colours e = None

abbrev pub givens_kept : Marks → Edit → List (ℕ × ℕ)
givens_kept marks (DeleteLine line) = givens_of_line marks line
givens_kept marks e = []

-- what is kept of an edit of a document
abbrev pub note_for : Design → Edit → Note
note_for d e = note e (cells_kept d.rows e) (triple_kept d.colours e) (givens_kept d.marks e)

-- the grid with each of these cells set to its value
abbrev pub with_cells : Rows → List Cell → Rows
with_cells rows [] = rows
with_cells rows (c ∷ cells) = with_cells (with_cell rows c.0 c.1 c.2) cells

-- a cell with what an edit makes of its colour
abbrev pub repainted : Edit → Cell → Cell
repainted e c = (c.0, c.1, colour_after e c.0 c.1 c.2)

-- the place lies in the picture
abbrev pub IsPlaceIn : Rows → ℕ × ℕ → Type 0
IsPlaceIn rows place = (place.0 < length rows) × (place.1 < width_of rows)

-- the cell lies in the picture, and has one of 16 colours
abbrev pub IsCellIn : Rows → Cell → Type 0
IsCellIn rows c = (c.0 < length rows) × (c.1 < width_of rows) × (c.2 < 16)

-- a given as a cell of the marks
abbrev pub as_mark : ℕ × ℕ → Cell
as_mark place = (place.0, place.1, 1)

abbrev pub rows_before : Edit → List Cell → Rows → Rows
rows_before (Paint row col colour) cells rows = with_cells rows cells
rows_before (Fill top left bottom right colour) cells rows = with_cells rows cells
rows_before (Recolour source target) cells rows = with_cells rows cells
rows_before (InsertLine line) cells rows = without_line line.axis line.at rows
rows_before (DeleteLine line) cells rows = with_cells (with_line line.axis line.at rows) cells
rows_before (SwapLines axis first second) cells rows = lines_swapped axis first second rows
rows_before e cells rows = rows

abbrev pub marks_before : Edit → List (ℕ × ℕ) → Marks → Marks
marks_before (InsertLine line) givens marks = without_line line.axis line.at marks
marks_before (DeleteLine line) givens marks = with_cells (with_line line.axis line.at marks) (map as_mark givens)
marks_before (SwapLines axis first second) givens marks = lines_swapped axis first second marks
marks_before (Pin row col) givens marks = with_cell marks row col 0
marks_before (Unpin row col) givens marks = with_cell marks row col 1
marks_before e givens marks = marks

-- the palette with a number's old colour
abbrev pub with_old : Colours → ℕ → Option Rgb → Colours
with_old colours colour None = colours
with_old colours colour (Some rgb) = with_triple colours colour rgb

abbrev pub colours_before : Edit → Option Rgb → Colours → Colours
colours_before (AddColour rgb) triple colours = without_last colours
colours_before (SetColour colour rgb) triple colours = with_old colours colour triple
colours_before e triple colours = colours

-- the document before an edit, from what is kept of it
abbrev pub reverted : Design → Note → Design
reverted d n =
    design (colours_before n.edit n.triple d.colours) (rows_before n.edit n.cells d.rows)
    (marks_before n.edit n.givens d.marks)

-- the note is what is kept of a lawful edit of the document
pub record IsEntry (d : Design) (n : Note) : Type 0 where
  pub is_design : IsDesign d
  pub lawful : edit_fault d n.edit ≡ None
  pub kept : n ≡ note_for d n.edit

-- the edit of the first document is lawful, gives the second, and the note is what is kept of it
pub record IsStep (before : Design) (n : Note) (after : Design) : Type 0 where
  pub is_design : IsDesign before
  pub lawful : edit_fault before n.edit ≡ None
  pub kept : n ≡ note_for before n.edit
  pub gives : edited before n.edit ≡ after

-- `ab/b.` recoloured from b to a, and what is kept of it
recoloured : cells_kept ((1 ∷ 2 ∷ []) ∷ (2 ∷ 0 ∷ []) ∷ []) (Recolour 2 1) ≡ (0, 1, 2) ∷ (1, 0, 2) ∷ []
unfolding joined
recoloured = refl

given_back : rows_before (Recolour 2 1) ((0, 1, 2) ∷ (1, 0, 2) ∷ []) ((1 ∷ 1 ∷ []) ∷ (1 ∷ 0 ∷ []) ∷ [])
    ≡ (1 ∷ 2 ∷ []) ∷ (2 ∷ 0 ∷ []) ∷ []
given_back = refl
