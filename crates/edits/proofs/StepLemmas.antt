-- For an entry, what is required by the functions that make the document before its edit.
use Rattle.std.proofs.Common.{◌≡◌, ℕ, ◌<◌, ◌≤◌, length, sym, ap, subst, ◌∙◌, arith, Result, Ok, Err, IfOk}
use Rattle.std.specs.List.{All}
use Rattle.picture.specs.declared.picture.TheConstants.{MAX_SIDE}
use Rattle.picture.specs.declared.document.Document.{Document}
use Rattle.std.specs.declared.alloc.AllocError.{AllocError}
use Rattle.picture.specs.declared.line_id.Axis.{Axis}
use Rattle.picture.specs.declared.line_id.LineId.{LineId}
use Rattle.picture.specs.Document.{AreColoured}
use Rattle.picture.specs.Rows.{width_of, lines_along, line_inserted, line_deleted, lines_swapped}
use Rattle.edits.specs.declared.edit.Edit.{Edit}
use Rattle.edits.specs.declared.edit.Edit.TheVariants.{InsertLine, DeleteLine, SwapLines}
use Rattle.edits.specs.Design.{Design, design_of, IsDesign, IsGrid}
use Rattle.edits.specs.Edit.{edited, painted}
use Rattle.edits.specs.Note.{IsCellIn, IsPlaceIn, IsStep, Note, cells_of_line, changed_cells, givens_of_line, reverted}
use Rattle.edits.proofs.CellLemmas.{all_has, changed_from}
use Rattle.edits.proofs.GridLemmas.{length-grid, picture_is_grid, width_of-grid}
use Rattle.edits.proofs.LineLemmas.{cell_of_line, given_of_line, line_back_is_grid, size_along}
use Rattle.edits.proofs.FaultLemmas.{IsLawful}
use Rattle.edits.proofs.ApplyLemmas.{Paints, insert_fits, delete_fits, swap_fits}
use Rattle.edits.proofs.PartLemmas.{some_lines}
use Rattle.edits.proofs.RevertLemmas.{reverted-edited, size_of_lines}
use Rattle.edits.proofs.ShiftLemmas.{inserted_sizes, deleted_sizes, swapped_sizes}

pub step_reverts : (b : Design) (n : Note) (d : Design) → IsStep b n d → reverted d n ≡ b
step_reverts b n d step = grind (arith, edited, reverted, reverted-edited)

pub step_coloured : (b : Design) (n : Note) (d : Design) → IsStep b n d → AreColoured (reverted d n).rows (reverted d n).colours
step_coloured b n d step = subst (λ (x : Design). AreColoured x.rows x.colours) (sym (step_reverts b n d step)) step.is_design.is_coloured

-- the document that is given back is the one before the edit
pub gives_before : (r : Result Document AllocError) (y d : Design) (n : Note) → reverted d n ≡ y → IfOk r (λ x. design_of x ≡ y)
    → IfOk r (λ x. (before : Design) → IsStep before n d → design_of x ≡ before)
gives_before (Ok x) y d n is same = λ before step. same ∙ (sym is ∙ step_reverts before n d step)
gives_before (Err e) y d n is same = same

module _ (b d : Design) (is : IsDesign b) where
  pub repaint_fits : (e : Edit) → Paints e → edited b e ≡ d → All (IsCellIn d.rows) (changed_cells e b.rows)
  repaint_fits e p gives =
      let rows : painted e b.rows ≡ d.rows = ap (λ (x : Design). x.rows) (sym (p.gives b) ∙ gives) in
      let count : length d.rows ≡ length b.rows = ap length (sym rows) ∙ length-grid _ _ _ in
      let wide : width_of d.rows ≡ width_of b.rows = ap width_of (sym rows) ∙ width_of-grid _ _ _ is.is_picture.has_row in
      all_has (IsCellIn d.rows) (changed_cells e b.rows)
      (λ c has.
      let was = changed_from e b.rows c has in
      (rw count was.0, rw wide was.1, rw (← was.2) (is.is_picture.colours c.0 c.1)))

  pub reinsert_fits : (line : LineId) → IsLawful b (InsertLine line) → edited b (InsertLine line) ≡ d → (line.at < lines_along line.axis d.rows) × (1 < lines_along line.axis d.rows)
  reinsert_fits line is_lawful gives =
      let fits = insert_fits b line is is_lawful in
      let sizes = inserted_sizes line.axis line.at b.rows is.is_picture fits.0 in
      let rows : lines_along line.axis (line_inserted b.rows line) ≡ lines_along line.axis d.rows = ap (λ (x : Design). lines_along line.axis x.rows) gives in
      (omega (arith, sizes.0, rows, fits.0), omega (arith, sizes.0, rows, some_lines line.axis b.rows is.is_picture))

  pub redelete_fits : (line : LineId) → IsLawful b (DeleteLine line) → edited b (DeleteLine line) ≡ d → (line.at ≤ lines_along line.axis d.rows) × (lines_along line.axis d.rows < MAX_SIDE)
  redelete_fits line is_lawful gives = grind (arith, delete_fits, deleted_sizes, line_deleted, lines_along, some_lines)

  -- the picture with room for the deleted line has the size of the one before
  line_room : (line : LineId) → IsLawful b (DeleteLine line) → edited b (DeleteLine line) ≡ d
      → (line.at < size_along line.axis (length b.rows) (width_of b.rows)) × IsGrid (length b.rows) (width_of b.rows) (line_inserted d.rows line)
  line_room line is_lawful gives =
      let fits = delete_fits b line is is_lawful in
      let place : line.at < size_along line.axis (length b.rows) (width_of b.rows) = rw (← size_of_lines line.axis b.rows) fits.0 in
      let more : 1 < size_along line.axis (length b.rows) (width_of b.rows) = rw (← size_of_lines line.axis b.rows) fits.1 in (
        place,
        subst (λ (x : Design). IsGrid (length b.rows) (width_of b.rows) (line_inserted x.rows line)) gives
            (line_back_is_grid line.axis line.at (length b.rows) (width_of b.rows) b.rows (picture_is_grid b.rows is.is_picture) place more),
      )

  pub line_cells_fit : (line : LineId) → IsLawful b (DeleteLine line) → edited b (DeleteLine line) ≡ d → All (IsCellIn (line_inserted d.rows line)) (cells_of_line b.rows line)
  line_cells_fit line is_lawful gives =
      let room = line_room line is_lawful gives in
      all_has (IsCellIn (line_inserted d.rows line)) (cells_of_line b.rows line)
      (λ c has.
      let was = cell_of_line line.axis line.at (length b.rows) (width_of b.rows) b.rows (picture_is_grid b.rows is.is_picture) is.is_picture.has_row room.0 c has in
      (omega (arith, was.0, room.1.row_count), omega (arith, was.1, room.1.row_lengths 0 is.is_picture.has_row), rw (← was.2) (is.is_picture.colours c.0 c.1)))

  pub line_givens_fit : (line : LineId) → IsLawful b (DeleteLine line) → edited b (DeleteLine line) ≡ d → All (IsPlaceIn (line_inserted d.rows line)) (givens_of_line b.marks line)
  line_givens_fit line is_lawful gives =
      let room = line_room line is_lawful gives in
      all_has (IsPlaceIn (line_inserted d.rows line)) (givens_of_line b.marks line)
      (λ p has.
      let was = given_of_line line.axis line.at (length b.rows) (width_of b.rows) b.marks is.marks_fit is.is_picture.has_row room.0 p has in
      (omega (arith, was.0, room.1.row_count), omega (arith, was.1, room.1.row_lengths 0 is.is_picture.has_row)))

  pub reswap_fits : (axis : Axis) (first second : ℕ) → IsLawful b (SwapLines axis first second) → edited b (SwapLines axis first second) ≡ d
      → (first < lines_along axis d.rows) × (second < lines_along axis d.rows)
  reswap_fits axis first second is_lawful gives = grind (arith, lines_along, lines_swapped, swap_fits, swapped_sizes)
