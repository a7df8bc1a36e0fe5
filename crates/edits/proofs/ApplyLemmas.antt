-- For a lawful edit, what is required by the functions that make its document.
use Rattle.std.proofs.Common.{◌≡◌, ℕ, ◌<◌, ◌≤◌, ◌⊎◌, inl, inr, Option, false, List, length, map, refl, sym, ap, subst, ◌∙◌, arith}
use Rattle.std.specs.List.{All}
use Rattle.std.proofs.lemmas.Bool.Decides.{nat_tests}
use Rattle.picture.specs.declared.picture.TheConstants.{MAX_SIDE}
use Rattle.picture.specs.declared.line_id.Axis.{Axis}
use Rattle.picture.specs.declared.line_id.LineId.{LineId}
use Rattle.picture.specs.declared.rgb.Rgb.{Rgb}
use Rattle.picture.specs.Palette.{Colours}
use Rattle.picture.specs.Document.{AreColoured}
use Rattle.picture.specs.Rows.{cell_at, width_of, lines_along, line_inserted, line_deleted, lines_swapped, Rows}
use Rattle.edits.specs.declared.edit.Edit.{Edit}
use Rattle.edits.specs.declared.edit.Edit.TheVariants.{Paint, Fill, Recolour, InsertLine, DeleteLine, SwapLines}
use Rattle.edits.specs.Design.{Design, design, IsDesign}
use Rattle.edits.specs.Edit.{colour_after, edited, painted}
use Rattle.edits.specs.Conditions.{lacks_colour}
use Rattle.edits.specs.Note.{Cell, IsCellIn, cells_kept, changed_cells, repainted, with_cells, rows_before, marks_before, colours_before}
use Rattle.edits.proofs.CellLemmas.{all_has, changed_from, has_from_map, paints_cells}
use Rattle.edits.proofs.GridLemmas.{grid_below}
use Rattle.edits.proofs.FaultLemmas.{IsLawful}
use Rattle.edits.proofs.ShiftLemmas.{edited_below, deleted_is, inserted_is, swapped_is}

-- edits that paint cells and do nothing else
pub record Paints (e : Edit) : Type 0 where
  pub kept : (rows : Rows) → cells_kept rows e ≡ changed_cells e rows
  pub gives : (d : Design) → edited d e ≡ design d.colours (painted e d.rows) d.marks
  pub back : (d : Design) (cells : List Cell) (triple : Option Rgb) (givens : List (ℕ × ℕ))
      → design (colours_before e triple d.colours) (rows_before e cells d.rows) (marks_before e givens d.marks) ≡ design d.colours (with_cells d.rows cells) d.marks
  pub fits : (colours : Colours) (i j x : ℕ) → lacks_colour colours e ≡ false → x < length colours.triples → colour_after e i j x < length colours.triples

pub paint_paints : (row col colour : ℕ) → Paints (Paint row col colour)
paint_paints row col colour = record { kept = λ rows. refl; gives = λ d. refl; back = λ d cells triple givens. refl; fits = λ colours i j x has small. grind (arith, nat_tests) }

pub fill_paints : (top left bottom right colour : ℕ) → Paints (Fill top left bottom right colour)
fill_paints top left bottom right colour = record { kept = λ rows. refl; gives = λ d. refl; back = λ d cells triple givens. refl; fits = λ colours i j x has small. grind (arith, nat_tests) }

pub recolour_paints : (source target : ℕ) → Paints (Recolour source target)
recolour_paints source target = record { kept = λ rows. refl; gives = λ d. refl; back = λ d cells triple givens. refl; fits = λ colours i j x has small. grind (arith, nat_tests) }

pub paints : (e : Edit) → ((row : ℕ) × (col : ℕ) × (colour : ℕ) × (e ≡ Paint row col colour))
    ⊎ (((top : ℕ) × (left : ℕ) × (bottom : ℕ) × (right : ℕ) × (colour : ℕ) × (e ≡ Fill top left bottom right colour)) ⊎ ((source : ℕ) × (target : ℕ) × (e ≡ Recolour source target))) → Paints e
paints e (inl p) = subst Paints (sym p.3) (paint_paints p.0 p.1 p.2)
paints e (inr (inl f)) = subst Paints (sym f.5) (fill_paints f.0 f.1 f.2 f.3 f.4)
paints e (inr (inr r)) = subst Paints (sym r.2) (recolour_paints r.0 r.1)

module _ (d : Design) (e : Edit) (is : IsDesign d) (is_lawful : IsLawful d e) where
  pub painted_coloured : Paints e → AreColoured (painted e d.rows) d.colours
  painted_coloured p = grind (arith, cell_at, colour_after, grid_below, length, width_of)

  pub cells_fit : Paints e → All (IsCellIn d.rows) (map (repainted e) (changed_cells e d.rows))
  cells_fit p =
      all_has (IsCellIn d.rows) (map (repainted e) (changed_cells e d.rows))
      (λ c has.
      let of = has_from_map (repainted e) (changed_cells e d.rows) c has in
      let was = changed_from e d.rows of.0 of.1 in
      let old : of.0.2 < length d.colours.triples = rw (← was.2) (is.is_coloured of.0.0 of.0.1) in
      let small : colour_after e of.0.0 of.0.1 of.0.2 < 16 = omega (arith, is.is_palette.colours_fit, p.fits d.colours of.0.0 of.0.1 of.0.2 is_lawful.coloured old) in
      subst (IsCellIn d.rows) of.2 (was.0, was.1, small))

  pub painted_gives : Paints e → design d.colours (with_cells d.rows (map (repainted e) (changed_cells e d.rows))) d.marks ≡ edited d e
  painted_gives p = ap (λ r. design d.colours r d.marks) (paints_cells e d.rows is.is_picture) ∙ sym (p.gives d)

-- lines inserted, deleted and exchanged
pub insert_fits : (d : Design) (line : LineId) → IsDesign d → IsLawful d (InsertLine line)
    → (line.at ≤ lines_along line.axis d.rows) × (lines_along line.axis d.rows < MAX_SIDE) × AreColoured (line_inserted d.rows line) d.colours
insert_fits d line is is_lawful = grind (arith, edited_below, inserted_is, length, lines_along, nat_tests)

pub delete_fits : (d : Design) (line : LineId) → IsDesign d → IsLawful d (DeleteLine line)
    → (line.at < lines_along line.axis d.rows) × (1 < lines_along line.axis d.rows) × AreColoured (line_deleted d.rows line) d.colours
delete_fits d line is is_lawful = grind (arith, deleted_is, edited_below, length, lines_along, nat_tests)

pub swap_fits : (d : Design) (axis : Axis) (first second : ℕ) → IsDesign d → IsLawful d (SwapLines axis first second)
    → (first < lines_along axis d.rows) × (second < lines_along axis d.rows) × AreColoured (lines_swapped axis first second d.rows) d.colours
swap_fits d axis first second is is_lawful = grind (arith, edited_below, length, lines_along, nat_tests, swapped_is)
