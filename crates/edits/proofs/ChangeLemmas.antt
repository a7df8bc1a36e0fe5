-- Which lines have other cells after an edit.
use Rattle.std.proofs.Common.{◌≡◌, ◌≢◌, ℕ, zero, suc, ◌<◌, inl, inr, None, List, [], ◌∷◌, length, get_or, map, refl, sym, ap, subst, ◌∙◌, arith, ◌↔◌}
use Rattle.std.proofs.lemmas.Bool.{cases_eq}
use Rattle.std.proofs.lemmas.List.{ext_get_or, length-map, get_or-map}
use Rattle.picture.specs.declared.line_id.Axis.{Axis}
use Rattle.picture.specs.declared.line_id.Axis.TheVariants.{Across, Down}
use Rattle.picture.specs.declared.line_id.LineId.{LineId}
use Rattle.picture.specs.Picture.{IsPicture}
use Rattle.picture.specs.Rows.{width_of, cell_at, line_along, line_of, lines_along, lines_swapped, Rows}
use Rattle.clues.specs.declared.places.Places.{Places}
use Rattle.clues.specs.declared.places.Places.TheVariants.{Kept, Inserted, Deleted, Swapped}
use Rattle.clues.specs.Places.{count_after, reversed}
use Rattle.clues.specs.Change.{AgreesOff, AreMoves, Changes, FollowsCells, FollowsSwap, HaveSizes, IsChangeOf, IsTouched, back, moved_along}
use Rattle.picture.specs.CrossingLines.{crossing}
use Rattle.clues.specs.Laws.{IsAtPlace, IsOnLine}
use Rattle.edits.specs.declared.edit.Edit.{Edit}
use Rattle.edits.specs.declared.edit.Edit.TheVariants.{Paint, Fill, Recolour, InsertLine, DeleteLine, SwapLines, AddColour, SetColour, Pin, Unpin}
use Rattle.edits.specs.Change.{CrossesApart, DifferIn, IsCrossed, Leads, moves_of, nth_cell, reversed_edit}
use Rattle.edits.specs.Design.{Design, IsDesign}
use Rattle.edits.specs.Edit.{colour_after, edited, painted}
use Rattle.edits.specs.Fault.{edit_fault}
use Rattle.edits.specs.Note.{Cell, IsStep, cells_along, cells_kept, changed_cells, note_for, place_on}
use Rattle.edits.proofs.ApplyLemmas.{Paints, delete_fits, fill_paints, insert_fits, paint_paints, recolour_paints, swap_fits}
use Rattle.edits.proofs.CellLemmas.{Has, all_has, changed_from, changed_has}
use Rattle.edits.proofs.FaultLemmas.{lawful}
use Rattle.edits.proofs.GridLemmas.{cell_at-grid, length-grid, width_of-grid}
use Rattle.edits.proofs.ShiftLemmas.{swapped_sizes}
use Rattle.edits.proofs.StepLemmas.{redelete_fits, reinsert_fits, reswap_fits, step_reverts}

-- the position of a cell along a line
abbrev position_of : Axis → ℕ → ℕ → ℕ
position_of Across i j = j
position_of Down i j = i

cell_on_line : (axis : Axis) (at i j : ℕ) (rows : Rows) → i < length rows → IsAtPlace axis at i j → get_or (line_along axis at rows) (position_of axis i j) 0 ≡ cell_at rows i j
cell_on_line Across at i j rows in_rows on = ap (λ k. get_or (get_or rows k []) j 0) (sym on)
cell_on_line Down at i j rows in_rows on = get_or-map (λ row. get_or row at 0) rows i [] 0 in_rows ∙ ap (λ k. get_or (get_or rows i []) k 0) (sym on)

-- lines with other cells, and with the same ones
lines_differ : (line : LineId) (old new : Rows) (i j : ℕ) → i < length old → length new ≡ length old → IsOnLine line i j → cell_at new i j ≢ cell_at old i j → line_of new line ≢ line_of old line
lines_differ line old new i j in_rows count on differ same = grind (arith, cell_on_line, get_or)

lines_same : (axis : Axis) (at : ℕ) (old new : Rows) → IsPicture old → IsPicture new → length new ≡ length old → width_of new ≡ width_of old → at < lines_along axis new
    → ((i j : ℕ) → i < length old → j < width_of old → IsAtPlace axis at i j → cell_at new i j ≡ cell_at old i j) → line_along axis at new ≡ line_along axis at old
lines_same Across at old new is_old is_new count wide within same =
    let here : at < length old = omega (arith, count) in
    let length_old = is_old.rectangular at here in
    let length_new = is_new.rectangular at within in
    ext_get_or 0 (get_or new at []) (get_or old at []) (length_new ∙ (wide ∙ sym length_old))
    (λ j in_row. same at j here (omega (arith, length_new, wide)) refl)
lines_same Down at old new is_old is_new count wide within same =
    let cell : List ℕ → ℕ = λ row. get_or row at 0 in
    ext_get_or 0 (map cell new) (map cell old) (length-map new cell ∙ (count ∙ sym (length-map old cell)))
    (λ i in_column.
    let here : i < length new = omega (arith, length-map new cell) in
    let there : i < length old = omega (arith, count, here) in
    get_or-map cell new i [] 0 here ∙ (same i at there (omega (arith, wide)) refl ∙ sym (get_or-map cell old i [] 0 there)))

-- a change is exact if it touches the lines of the cells in which two pictures differ
pub cells_exact : (change : Changes) (old new : Rows) (cells : List Cell) → IsPicture old → IsPicture new → DifferIn cells old new → FollowsCells change.moves old new
    → ((line : LineId) → IsTouched change line ↔ IsCrossed (length cells) cells line) → IsChangeOf change old new
cells_exact change old new cells is_old is_new differ follows by = record {
  sizes = follows.sizes;
  follows = record {
    sizes = follows.sizes.after;
    untouched = λ line has untouched.
        follows.same line has
        (lines_same line.axis line.at old new is_old is_new differ.row_count differ.column_count has
        (λ i j in_rows in_columns on.
        elim (cases_eq (cell_at new i j) (cell_at old i j)) [
          | inl same ↦ same
          | inr other ↦
              let at = differ.only i j in_rows in_columns other in
              let crossed : IsOnLine line (nth_cell cells at.0).0 (nth_cell cells at.0).1 =
              subst (λ x. IsOnLine line x (nth_cell cells at.0).1) (sym at.2) (subst (λ x. IsOnLine line i x) (sym at.3) on) in
              absurd (untouched ((by line).1 (at.0, at.1, crossed)))
        ]));
  };
  touched = λ line has touched is.
      let crossed = (by line).0 touched in
      let inside = differ.inside crossed.0 crossed.1 in
      lines_differ line old new (nth_cell cells crossed.0).0 (nth_cell cells crossed.0).1 inside.0 differ.row_count crossed.2 (differ.differ crossed.0 crossed.1) (follows.only line has is);
}

-- a change is exact if it touches the crossing lines in which two exchanged lines have different cells
crossed_cell : (axis : Axis) (at k : ℕ) (rows : Rows) → at < lines_along axis rows → get_or (line_along (crossing axis) k rows) at 0 ≡ cell_at rows (place_on axis at k).0 (place_on axis at k).1
crossed_cell Across at k rows within = get_or-map (λ row. get_or row k 0) rows at [] 0 within
crossed_cell Down at k rows within = refl

crossing_count : (axis : Axis) (rows : Rows) → lines_along (crossing axis) rows ≡ cells_along axis rows
crossing_count Across rows = refl
crossing_count Down rows = refl

pub swap_exact : (change : Changes) (axis : Axis) (first second : ℕ) (old : Rows) → IsPicture old → first < lines_along axis old → second < lines_along axis old
    → FollowsSwap axis first second change.moves old (lines_swapped axis first second old) → ((line : LineId) → IsTouched change line ↔ CrossesApart (cells_along axis old) axis first second old line)
    → IsChangeOf change old (lines_swapped axis first second old)
swap_exact change axis first second old is f s follows by =
    let new = lines_swapped axis first second old in
    let count : lines_along (crossing axis) new ≡ cells_along axis old = crossing_count axis new ∙ (swapped_sizes axis first second old is f s).1 in
    record {
      sizes = follows.sizes;
      follows = record {
        sizes = follows.sizes.after;
        untouched = λ line has untouched.
            follows.alike line has
            (λ crosses.
            let a = crossed_cell axis first line.at old f in
            let b = crossed_cell axis second line.at old s in
            let within : line.at < cells_along axis old = rw (← count) (subst (λ x. line.at < lines_along x new) crosses has) in
            elim (cases_eq (cell_at old (place_on axis first line.at).0 (place_on axis first line.at).1) (cell_at old (place_on axis second line.at).0 (place_on axis second line.at).1)) [
              | inl same ↦ subst (λ x. get_or (line_along x line.at old) first 0 ≡ get_or (line_along x line.at old) second 0) (sym crosses) (a ∙ (same ∙ sym b))
              | inr other ↦ absurd (untouched ((by line).1 (crosses, within, other)))
            ]);
      };
      touched = λ line has touched is.
          let apart = (by line).0 touched in
          let alike = subst (λ x. get_or (line_along x line.at old) first 0 ≡ get_or (line_along x line.at old) second 0) apart.0 (follows.only line has is apart.0) in
          apart.2 (sym (crossed_cell axis first line.at old f) ∙ (alike ∙ crossed_cell axis second line.at old s));
    }

-- a list's item at its place
has_place : (cells : List Cell) (c : Cell) → Has cells c → (k : ℕ) × (k < length cells) × (nth_cell cells k ≡ c)
has_place [] c h = absurd h
has_place (d ∷ cells) c h =
    elim h [
      | inl e ↦ (zero, omega arith, e)
      | inr rest ↦ let at = has_place cells c rest in (suc at.0, omega (arith, at.1), at.2)
    ]

-- the pictures before and after an edit that paints
painted_differ : (b d : Design) (e : Edit) → IsDesign b → Paints e → edited b e ≡ d → DifferIn (changed_cells e b.rows) b.rows d.rows
painted_differ b d e is p gives =
    let old = b.rows in
    let cells = changed_cells e old in
    let value : ℕ → ℕ → ℕ = λ i j. colour_after e i j (cell_at old i j) in
    let rows : painted e old ≡ d.rows = ap (λ (x : Design). x.rows) (sym (p.gives b) ∙ gives) in
    let after : (i j : ℕ) → i < length old → j < width_of old → cell_at d.rows i j ≡ colour_after e i j (cell_at old i j) =
    λ i j in_rows in_columns. ap (λ r. cell_at r i j) (sym rows) ∙ cell_at-grid (length old) (width_of old) value i j in_rows in_columns in
    record {
      row_count = ap length (sym rows) ∙ length-grid (length old) (width_of old) value;
      column_count = ap width_of (sym rows) ∙ width_of-grid (length old) (width_of old) value is.is_picture.has_row;
      inside = λ k within. all_has (λ (c : Cell). (c.0 < length old) × (c.1 < width_of old)) cells (λ c has. let was = changed_from e old c has in (was.0, was.1)) k (0, 0, 0) within;
      differ = λ k within.
          all_has (λ (c : Cell). cell_at d.rows c.0 c.1 ≢ cell_at old c.0 c.1) cells
          (λ c has same.
          let was = changed_from e old c has in
          was.3 (ap (colour_after e c.0 c.1) (sym was.2) ∙ (sym (after c.0 c.1 was.0 was.1) ∙ (same ∙ was.2)))) k (0, 0, 0) within;
      only = λ i j in_rows in_columns other.
          let at = has_place cells (i, j, cell_at old i j) (changed_has e old i j in_rows in_columns (λ same. other (after i j in_rows in_columns ∙ same))) in
          (at.0, at.1, ap (λ (c : Cell). c.0) at.2, ap (λ (c : Cell). c.1) at.2);
    }

differ_back : (cells : List Cell) (old new : Rows) → DifferIn cells old new → DifferIn cells new old
differ_back cells old new differ = record {
  row_count = sym differ.row_count;
  column_count = sym differ.column_count;
  inside = λ k within. let at = differ.inside k within in (omega (arith, at.0, differ.row_count), omega (arith, at.1, differ.column_count));
  differ = λ k within same. differ.differ k within (sym same);
  only = λ i j in_rows in_columns other. differ.only i j (omega (arith, differ.row_count)) (omega (arith, differ.column_count)) (λ same. other (sym same));
}

none_differ : (rows : Rows) → DifferIn [] rows rows
none_differ rows = record {
  row_count = refl;
  column_count = refl;
  inside = λ k within. absurd (omega arith);
  differ = λ k within. absurd (omega arith);
  only = λ i j _ _ other. absurd (other refl);
}

-- the pictures before and after an edit, and the way back
module _ (b d : Design) (is : IsDesign b) where
  step_from : (e : Edit) → edit_fault b e ≡ None → edited b e ≡ d → IsStep b (note_for b e) d
  step_from e none gives = record { is_design = is; lawful = none; kept = refl; gives = gives }

  insertion_agrees : (line : LineId) → edit_fault b (InsertLine line) ≡ None → edited b (InsertLine line) ≡ d → AgreesOff line b.rows d.rows
  insertion_agrees line none gives = record {
    has_line = (reinsert_fits b d is line (lawful b (InsertLine line) none) gives).0;
    off_line = ap (λ (x : Design). x.rows) (step_reverts b (note_for b (InsertLine line)) d (step_from (InsertLine line) none gives));
  }

  pub leads : (e : Edit) → edit_fault b e ≡ None → edited b e ≡ d → Leads e (cells_kept b.rows e) b.rows d.rows
  leads (Paint row col colour) none gives = painted_differ b d (Paint row col colour) is (paint_paints row col colour) gives
  leads (Fill top left bottom right colour) none gives = painted_differ b d (Fill top left bottom right colour) is (fill_paints top left bottom right colour) gives
  leads (Recolour source target) none gives = painted_differ b d (Recolour source target) is (recolour_paints source target) gives
  leads (InsertLine line) none gives =
      let fits = insert_fits b line is (lawful b (InsertLine line) none) in
      (fits.0, fits.1, insertion_agrees line none gives)
  leads (DeleteLine line) none gives =
      let fits = delete_fits b line is (lawful b (DeleteLine line) none) in
      (fits.0, fits.1, ap (λ (x : Design). x.rows) (sym gives))
  leads (SwapLines axis first second) none gives =
      let fits = swap_fits b axis first second is (lawful b (SwapLines axis first second) none) in
      (fits.0, fits.1, ap (λ (x : Design). x.rows) (sym gives))
  leads (AddColour rgb) none gives = subst (λ (x : Design). DifferIn [] b.rows x.rows) gives (none_differ b.rows)
  leads (SetColour colour rgb) none gives = subst (λ (x : Design). DifferIn [] b.rows x.rows) gives (none_differ b.rows)
  leads (Pin row col) none gives = subst (λ (x : Design). DifferIn [] b.rows x.rows) gives (none_differ b.rows)
  leads (Unpin row col) none gives = subst (λ (x : Design). DifferIn [] b.rows x.rows) gives (none_differ b.rows)

  pub leads_back : (e : Edit) → edit_fault b e ≡ None → edited b e ≡ d → Leads (reversed_edit e) (cells_kept b.rows e) d.rows b.rows
  leads_back (InsertLine line) none gives =
      let fits = reinsert_fits b d is line (lawful b (InsertLine line) none) gives in
      (fits.0, fits.1, sym (insertion_agrees line none gives).off_line)
  leads_back (DeleteLine line) none gives =
      let is_lawful = lawful b (DeleteLine line) none in
      let fits = redelete_fits b d is line is_lawful gives in
      (fits.0, fits.1, record { has_line = (delete_fits b line is is_lawful).0; off_line = ap (λ (x : Design). x.rows) gives })
  leads_back (SwapLines axis first second) none gives =
      let fits = reswap_fits b d is axis first second (lawful b (SwapLines axis first second) none) gives in
      (fits.0, fits.1, ap (λ (x : Design). x.rows) (sym (step_reverts b (note_for b (SwapLines axis first second)) d (step_from (SwapLines axis first second) none gives))))
  leads_back (Paint row col colour) none gives = differ_back _ b.rows d.rows (leads (Paint row col colour) none gives)
  leads_back (Fill top left bottom right colour) none gives = differ_back _ b.rows d.rows (leads (Fill top left bottom right colour) none gives)
  leads_back (Recolour source target) none gives = differ_back _ b.rows d.rows (leads (Recolour source target) none gives)
  leads_back (AddColour rgb) none gives = differ_back [] b.rows d.rows (leads (AddColour rgb) none gives)
  leads_back (SetColour colour rgb) none gives = differ_back [] b.rows d.rows (leads (SetColour colour rgb) none gives)
  leads_back (Pin row col) none gives = differ_back [] b.rows d.rows (leads (Pin row col) none gives)
  leads_back (Unpin row col) none gives = differ_back [] b.rows d.rows (leads (Unpin row col) none gives)

-- the moves of the reversed edit are those back
count_back : (places : Places) (n m : ℕ) → 0 < m → n ≡ count_after (reversed places) m → m ≡ count_after places n
count_back Kept n m some e = sym e
count_back (Inserted at) n m some e = omega arith
count_back (Deleted at) n m some e = omega arith
count_back (Swapped first second) n m some e = sym e

moved_back : (axis : Axis) (places : Places) (old new : Rows) → AreMoves (moved_along axis (reversed places) (length new) (width_of new))
    → HaveSizes (moved_along axis (reversed places) (length new) (width_of new)) new old
    → moved_along axis (reversed places) (length new) (width_of new) ≡ back (moved_along axis places (length old) (width_of old))
moved_back Across places old new are sizes =
    ap (λ h. moved_along Across (reversed places) h (width_of new)) (count_back places (length old) (length new) (are.some_before Across) (sizes.after Across))
    ∙ ap (λ w. moved_along Across (reversed places) (count_after places (length old)) w) (sym (sizes.after Down))
moved_back Down places old new are sizes =
    ap (λ h. moved_along Down (reversed places) h (width_of new)) (sym (sizes.after Across))
    ∙ ap (λ w. moved_along Down (reversed places) (length old) w) (count_back places (width_of old) (width_of new) (are.some_before Down) (sizes.after Down))

pub moves_back : (e : Edit) (old new : Rows) → AreMoves (moves_of (reversed_edit e) new) → HaveSizes (moves_of (reversed_edit e) new) new old → moves_of (reversed_edit e) new ≡ back (moves_of e old)
moves_back (InsertLine line) old new are sizes = moved_back line.axis (Inserted line.at) old new are sizes
moves_back (DeleteLine line) old new are sizes = moved_back line.axis (Deleted line.at) old new are sizes
moves_back (SwapLines axis first second) old new are sizes = moved_back axis (Swapped first second) old new are sizes
moves_back (Paint row col colour) old new are sizes = moved_back Across Kept old new are sizes
moves_back (Fill top left bottom right colour) old new are sizes = moved_back Across Kept old new are sizes
moves_back (Recolour source target) old new are sizes = moved_back Across Kept old new are sizes
moves_back (AddColour rgb) old new are sizes = moved_back Across Kept old new are sizes
moves_back (SetColour colour rgb) old new are sizes = moved_back Across Kept old new are sizes
moves_back (Pin row col) old new are sizes = moved_back Across Kept old new are sizes
moves_back (Unpin row col) old new are sizes = moved_back Across Kept old new are sizes
