-- An edit taken back gives the document before it.
use Rattle.std.proofs.Common.{◌≡◌, ◌≢◌, ℕ, ◌-◌, ◌<◌, ◌≤◌, false, not, inl, inr, Option, Some, None, [], ◌∷◌, ◌++◌, length, length-append, get_or, set, take, refl, sym, ap, ◌∙◌, arith, slice_get}
use Rattle.std.proofs.lemmas.Bool.Decides.{nat_tests}
use Rattle.std.proofs.lemmas.List.{set-set, set-get_or, get_or-set_same}
use Rattle.std.proofs.lemmas.Option.{slice_get_cases, get_or_from_slice_get}
use Rattle.std.proofs.Math.Seq.{take-append_seam}
use Rattle.picture.specs.declared.line_id.Axis.{Axis}
use Rattle.picture.specs.declared.line_id.Axis.TheVariants.{Across, Down}
use Rattle.picture.specs.declared.rgb.Rgb.{Rgb}
use Rattle.picture.specs.Palette.{Colours, with_colour, with_triple, without_last}
use Rattle.picture.specs.Rows.{width_of, cell_at, with_cell, lines_along, Rows}
use Rattle.edits.specs.declared.edit.Edit.{Edit}
use Rattle.edits.specs.declared.edit.Edit.TheVariants.{Paint, Fill, Recolour, InsertLine, DeleteLine, SwapLines, AddColour, SetColour, Pin, Unpin}
use Rattle.edits.specs.Design.{Design, design, IsDesign, IsGrid}
use Rattle.edits.specs.Edit.{edited, rows_after, marks_after, colours_after}
use Rattle.edits.specs.Fault.{edit_fault, has_cell}
use Rattle.edits.specs.Note.{note_for, reverted, with_old}
use Rattle.edits.proofs.GridLemmas.{picture_is_grid}
use Rattle.edits.proofs.CellLemmas.{gives_cells_back}
use Rattle.edits.proofs.LineLemmas.{size_along, delete_insert, swap_back, gives_line_back, gives_givens_back}
use Rattle.edits.proofs.FaultLemmas.{IsLawful, lawful, same_parts, differs}

-- the size of a picture
pub size_of_lines : (axis : Axis) (rows : Rows) → lines_along axis rows ≡ size_along axis (length rows) (width_of rows)
size_of_lines Across rows = refl
size_of_lines Down rows = refl

-- one cell changed and given back
pub with_cell_same : (rows : Rows) (i j : ℕ) → with_cell rows i j (cell_at rows i j) ≡ rows
with_cell_same rows i j = ap (set rows i) (set-get_or (get_or rows i []) j 0) ∙ set-get_or rows i []

pub with_cell_back : (rows : Rows) (i j x : ℕ) → i < length rows → with_cell (with_cell rows i j x) i j (cell_at rows i j) ≡ rows
with_cell_back rows i j x within = grind (arith, get_or, get_or-set_same, set, set-get_or, set-set)

pub not_in : (rows : Rows) (i j : ℕ) → not (has_cell rows i j) ≡ false → (i < length rows) × (j < width_of rows)
not_in rows i j e = grind (arith, nat_tests)

-- palettes
pop_added : (colours : Colours) (rgb : Rgb) → without_last (with_colour colours rgb) ≡ colours
pop_added colours rgb =
    let count : length (colours.triples ++ rgb ∷ []) - 1 ≡ length colours.triples = omega (arith, length-append colours.triples (rgb ∷ [])) in
    ap (λ t. record { maxval = colours.maxval; triples = t })
    (ap (λ n. take n (colours.triples ++ rgb ∷ [])) count ∙ take-append_seam colours.triples (rgb ∷ []))

old_set : (colours : Colours) (k : ℕ) (rgb : Rgb) (old : Option Rgb) → k < length colours.triples → slice_get colours.triples k ≡ old → with_old (with_triple colours k rgb) k old ≡ colours
old_set colours k rgb None within e = elim (slice_get_cases colours.triples k).1 [ inl is ↦ absurd (cc (e, is.2)) | inr past ↦ absurd (omega (arith, past.0)) ]
old_set colours k rgb (Some old) within e =
    ap (λ t. record { maxval = colours.maxval; triples = t })
    (set-set colours.triples k rgb old
    ∙ (ap (λ x. set colours.triples k x) (sym (get_or_from_slice_get colours.triples k old old e)) ∙ set-get_or colours.triples k old))

module _ (d : Design) (is : IsDesign d) where
  grid_of_rows : IsGrid (length d.rows) (width_of d.rows) d.rows
  grid_of_rows = picture_is_grid d.rows is.is_picture

  unchanged : (e : Edit) → IsLawful d e → design (colours_after e d.colours) (rows_after e d.rows) (marks_after e d.marks) ≢ d
  unchanged e is_lawful = differs (edited d e) d is_lawful.changes

  pub reverted-edited : (e : Edit) → edit_fault d e ≡ None → reverted (edited d e) (note_for d e) ≡ d
  reverted-edited (Paint row col colour) none = ap (λ r. design d.colours r d.marks) (gives_cells_back (Paint row col colour) d.rows is.is_picture)
  reverted-edited (Fill top left bottom right colour) none = ap (λ r. design d.colours r d.marks) (gives_cells_back (Fill top left bottom right colour) d.rows is.is_picture)
  reverted-edited (Recolour source target) none = ap (λ r. design d.colours r d.marks) (gives_cells_back (Recolour source target) d.rows is.is_picture)
  reverted-edited (InsertLine line) none =
      let is_lawful = lawful d (InsertLine line) none in
      let place : line.at ≤ size_along line.axis (length d.rows) (width_of d.rows) = rw (← size_of_lines line.axis d.rows) (grind (arith, nat_tests, is_lawful.inside)) in
      same_parts _ d refl (delete_insert line.axis line.at (length d.rows) (width_of d.rows) d.rows grid_of_rows place)
      (delete_insert line.axis line.at (length d.rows) (width_of d.rows) d.marks is.marks_fit place)
  reverted-edited (DeleteLine line) none =
      let is_lawful = lawful d (DeleteLine line) none in
      let place : line.at < size_along line.axis (length d.rows) (width_of d.rows) = rw (← size_of_lines line.axis d.rows) (grind (arith, nat_tests, is_lawful.inside)) in
      let more : 1 < size_along line.axis (length d.rows) (width_of d.rows) = rw (← size_of_lines line.axis d.rows) (grind (arith, nat_tests, is_lawful.others)) in
      same_parts _ d refl
      (gives_line_back line.axis line.at (length d.rows) (width_of d.rows) d.rows grid_of_rows is.is_picture.has_row place more)
      (gives_givens_back line.axis line.at (length d.rows) (width_of d.rows) d.marks is.marks_fit is.are_marks is.is_picture.has_row place more)
  reverted-edited (SwapLines axis first second) none =
      let is_lawful = lawful d (SwapLines axis first second) none in
      let first_in : first < size_along axis (length d.rows) (width_of d.rows) = rw (← size_of_lines axis d.rows) (grind (arith, nat_tests, is_lawful.inside)) in
      let second_in : second < size_along axis (length d.rows) (width_of d.rows) = rw (← size_of_lines axis d.rows) (grind (arith, nat_tests, is_lawful.inside)) in
      same_parts _ d refl (swap_back axis first second (length d.rows) (width_of d.rows) d.rows grid_of_rows first_in second_in)
      (swap_back axis first second (length d.rows) (width_of d.rows) d.marks is.marks_fit first_in second_in)
  reverted-edited (AddColour rgb) none = ap (λ c. design c d.rows d.marks) (pop_added d.colours rgb)
  reverted-edited (SetColour colour rgb) none =
      let is_lawful = lawful d (SetColour colour rgb) none in
      let within : colour < length d.colours.triples = grind (arith, nat_tests, is_lawful.coloured) in
      ap (λ c. design c d.rows d.marks) (old_set d.colours colour rgb (slice_get d.colours.triples colour) within refl)
  reverted-edited (Pin row col) none =
      let is_lawful = lawful d (Pin row col) none in
      let inside = not_in d.rows row col is_lawful.inside in
      let other : cell_at d.marks row col ≢ 1 =
      λ one. unchanged (Pin row col) is_lawful (ap (λ m. design d.colours d.rows m) (ap (λ x. with_cell d.marks row col x) (sym one) ∙ with_cell_same d.marks row col)) in
      let none_here : cell_at d.marks row col ≡ 0 = omega (arith, is.are_marks row col, other) in
      ap (λ m. design d.colours d.rows m)
      (ap (λ x. with_cell (with_cell d.marks row col 1) row col x) (sym none_here) ∙ with_cell_back d.marks row col 1 (omega (arith, is.marks_fit.row_count, inside.0)))
  reverted-edited (Unpin row col) none =
      let is_lawful = lawful d (Unpin row col) none in
      let inside = not_in d.rows row col is_lawful.inside in
      let other : cell_at d.marks row col ≢ 0 =
      λ zero_here. unchanged (Unpin row col) is_lawful (ap (λ m. design d.colours d.rows m) (ap (λ x. with_cell d.marks row col x) (sym zero_here) ∙ with_cell_same d.marks row col)) in
      let one_here : cell_at d.marks row col ≡ 1 = omega (arith, is.are_marks row col, other) in
      ap (λ m. design d.colours d.rows m)
      (ap (λ x. with_cell (with_cell d.marks row col 0) row col x) (sym one_here) ∙ with_cell_back d.marks row col 0 (omega (arith, is.marks_fit.row_count, inside.0)))
