-- The document after an edit.
use Rattle.std.specs.Prelude.{◌≡◌, ℕ, ◌&&◌, nat_le, ◌==◌, [], ◌∷◌, ◌++◌, length, slice_set, if◌then◌else◌, refl}
use Rattle.picture.specs.declared.line_id.Axis.TheVariants.{Across}
use Rattle.picture.specs.Palette.{Colours}
use Rattle.picture.specs.Rows.{width_of, cell_at, with_cell, with_line, without_line, lines_swapped, Rows}
use Rattle.edits.specs.declared.edit.Edit.{Edit}
use Rattle.edits.specs.declared.edit.Edit.TheVariants.{Paint, Fill, Recolour, InsertLine, DeleteLine, SwapLines}
use Rattle.edits.specs.declared.edit.Edit.TheVariants.{AddColour, SetColour, Pin, Unpin}
use Rattle.edits.specs.Design.{Design, grid, Marks}

-- the colour that a cell of colour x, at row i and column j, has afterwards
abbrev pub colour_after : Edit → ℕ → ℕ → ℕ → ℕ
colour_after (Paint row col colour) i j x = if (i == row && j == col) then colour else x
colour_after (Fill top left bottom right colour) i j x =
    if (nat_le top i && nat_le i bottom) && (nat_le left j && nat_le j right) then colour else x
colour_after (Recolour source target) i j x = if x == source then target else x
colour_after e i j x = x

-- the picture with the colours that its cells have afterwards
abbrev pub painted : Edit → Rows → Rows
painted e rows = grid (length rows) (width_of rows) (λ i j. colour_after e i j (cell_at rows i j))

abbrev pub rows_after : Edit → Rows → Rows
rows_after (Paint row col colour) rows = painted (Paint row col colour) rows
rows_after (Fill top left bottom right colour) rows = painted (Fill top left bottom right colour) rows
rows_after (Recolour source target) rows = painted (Recolour source target) rows
rows_after (InsertLine line) rows = with_line line.axis line.at rows
rows_after (DeleteLine line) rows = without_line line.axis line.at rows
rows_after (SwapLines axis first second) rows = lines_swapped axis first second rows
rows_after e rows = rows

-- the givens move with the lines, and a new line has none
abbrev pub marks_after : Edit → Marks → Marks
marks_after (InsertLine line) marks = with_line line.axis line.at marks
marks_after (DeleteLine line) marks = without_line line.axis line.at marks
marks_after (SwapLines axis first second) marks = lines_swapped axis first second marks
marks_after (Pin row col) marks = with_cell marks row col 1
marks_after (Unpin row col) marks = with_cell marks row col 0
marks_after e marks = marks

abbrev pub colours_after : Edit → Colours → Colours
colours_after (AddColour rgb) colours = record colours { triples = colours.triples ++ rgb ∷ [] }
colours_after (SetColour colour rgb) colours = record colours { triples = slice_set colours.triples colour rgb }
colours_after e colours = colours

abbrev pub edited : Design → Edit → Design
edited d e = record { colours = colours_after e d.colours; rows = rows_after e d.rows; marks = marks_after e d.marks }

-- `a.`: its second cell painted a, and a row inserted above
paints : rows_after (Paint 0 1 1) ((1 ∷ 0 ∷ []) ∷ []) ≡ (1 ∷ 1 ∷ []) ∷ []
unfolding grid
paints = refl

inserts : rows_after (InsertLine (record { axis = Across; at = 0 })) ((1 ∷ 0 ∷ []) ∷ [])
    ≡ (0 ∷ 0 ∷ []) ∷ (1 ∷ 0 ∷ []) ∷ []
inserts = refl

-- `ab/b.` recoloured from b to a
recolours : rows_after (Recolour 2 1) ((1 ∷ 2 ∷ []) ∷ (2 ∷ 0 ∷ []) ∷ []) ≡ (1 ∷ 1 ∷ []) ∷ (1 ∷ 0 ∷ []) ∷ []
unfolding grid
recolours = refl
