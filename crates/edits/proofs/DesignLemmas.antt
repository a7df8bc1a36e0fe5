-- The marks of a set of givens.
use Rattle.std.proofs.Common.{◌≡◌, ℕ, ◌^◌, ◌<◌, ◌↔◌, inl, inr, Bool, true, false, cond, eqb, List, length, get_or, refl, sym, ◌∙◌, arith, bit_and}
use Rattle.std.proofs.lemmas.Bool.{cases_lt, eq-eqb, ne_eqb}
use Rattle.picture.specs.CellSet.{HasCell, PutsCell, TakesOutCell}
use Rattle.picture.specs.Palette.{IsPalette, Colours}
use Rattle.picture.specs.Picture.{IsPicture}
use Rattle.picture.specs.Document.{AreColoured}
use Rattle.picture.specs.Rows.{cell_at, width_of, with_cell, Rows}
use Rattle.edits.specs.Design.{IsDesign, design, mark_at, marks_of}
use Rattle.edits.specs.Laws.{MarksAreGivens}
use Rattle.edits.proofs.GridLemmas.{grid_below, grid_is_grid, grid_same, with_cell_is_grid, cell_at-with_other, cell_at-with_same, place_cases, cell_at-grid, cell_at-past_rows, cell_at-past_columns}
use Rattle.edits.proofs.GridLemmas.{length-grid}

pub mark_small : (b : Bool) → cond b 0 1 < 2
mark_small true = omega arith
mark_small false = omega arith

pub marks_small : (h w : ℕ) (givens : List ℕ) (i j : ℕ) → cell_at (marks_of h w givens) i j < 2
marks_small h w givens = grid_below h w 2 (mark_at givens) (omega arith) (λ i j _ _. mark_small (eqb (bit_and (get_or givens i 0) (2 ^ j)) 0))

-- a mark is 1 where the set has the cell
pub mark_has : (givens : List ℕ) (i j : ℕ) → HasCell givens i j → mark_at givens i j ≡ 1
mark_has givens i j has = rw (ne_eqb (bit_and (get_or givens i 0) (2 ^ j)) 0 has) refl

pub mark_none : (givens : List ℕ) (i j : ℕ) → (HasCell givens i j → ⊥) → mark_at givens i j ≡ 0
mark_none givens i j none = grind (arith, bit_and, eq-eqb, get_or)

pub has_mark : (givens : List ℕ) (i j : ℕ) → mark_at givens i j ≡ 1 → HasCell givens i j
has_mark givens i j one = λ e. absurd (omega (arith, one, rw (eq-eqb (bit_and (get_or givens i 0) (2 ^ j)) 0 e) at one))

pub mark_is_given : (h w : ℕ) (givens : List ℕ) (i j : ℕ) → i < h → j < w → HasCell givens i j → cell_at (marks_of h w givens) i j ≡ 1
mark_is_given h w givens i j in_rows in_columns has = cell_at-grid h w (mark_at givens) i j in_rows in_columns ∙ mark_has givens i j has

pub given_is_marked : (h w : ℕ) (givens : List ℕ) (i j : ℕ) → i < h → j < w → cell_at (marks_of h w givens) i j ≡ 1 → HasCell givens i j
given_is_marked h w givens i j in_rows in_columns one = has_mark givens i j (sym (cell_at-grid h w (mark_at givens) i j in_rows in_columns) ∙ one)

-- exactly the givens are marked
pub all_marked : MarksAreGivens
all_marked rows givens inside i j =
    let h = length rows in
    let w = width_of rows in (
      (λ has. mark_is_given h w givens i j (inside i j has).0 (inside i j has).1 has),
      (λ one. elim (cases_lt i h) [
        | inl in_rows ↦
            elim (cases_lt j w) [
              | inl in_columns ↦ given_is_marked h w givens i j in_rows in_columns one
              | inr past ↦ absurd (omega (arith, one, cell_at-past_columns h w (marks_of h w givens) i j (grid_is_grid h w (mark_at givens)) past))
            ]
        | inr past ↦ absurd (omega (arith, one, cell_at-past_rows (marks_of h w givens) i j (omega (arith, length-grid h w (mark_at givens)))))
      ]),
    )

pub is_design : (colours : Colours) (rows : Rows) (givens : List ℕ) → IsPalette colours → IsPicture rows → AreColoured rows colours
    → IsDesign (design colours rows (marks_of (length rows) (width_of rows) givens))
is_design colours rows givens palette picture coloured = record {
  is_palette = palette;
  is_picture = picture;
  is_coloured = coloured;
  are_marks = marks_small (length rows) (width_of rows) givens;
  marks_fit = grid_is_grid (length rows) (width_of rows) (mark_at givens);
}

-- sets that have a cell alike have the same mark there
pub mark_same : (old new : List ℕ) (i j : ℕ) → HasCell new i j ↔ HasCell old i j → mark_at new i j ≡ mark_at old i j
mark_same old new i j alike = grind (arith, has_mark, mark_at, mark_has, mark_none)

-- a given more, or less
cell_marked : (h w : ℕ) (old new : List ℕ) (row col x : ℕ) → row < h → col < w → mark_at new row col ≡ x → ((i j : ℕ) → ((i ≡ row) × (j ≡ col) → ⊥) → HasCell new i j ↔ HasCell old i j)
    → marks_of h w new ≡ with_cell (marks_of h w old) row col x
cell_marked h w old new row col x in_rows in_columns marked alike =
    let is = grid_is_grid h w (mark_at old) in
    grid_same h w (mark_at new) (with_cell (marks_of h w old) row col x) (with_cell_is_grid h w (marks_of h w old) row col x is in_rows)
    (λ i j i_in j_in.
    elim (place_cases i j row col) [
      | inl at ↦ rw (at.0, at.1) (marked ∙ sym (cell_at-with_same h w (marks_of h w old) row col x is in_rows in_columns))
      | inr other ↦ mark_same old new i j (alike i j other) ∙ sym (cell_at-with_other h w (marks_of h w old) row col x i j is in_rows other ∙ cell_at-grid h w (mark_at old) i j i_in j_in)
    ])

pub pinned_marks : (h w : ℕ) (old new : List ℕ) (row col : ℕ) → row < h → col < w → PutsCell old new row col → marks_of h w new ≡ with_cell (marks_of h w old) row col 1
pinned_marks h w old new row col in_rows in_columns puts = grind (arith, cell_marked, mark_has)

pub unpinned_marks : (h w : ℕ) (old new : List ℕ) (row col : ℕ) → row < h → col < w → TakesOutCell old new row col → marks_of h w new ≡ with_cell (marks_of h w old) row col 0
unpinned_marks h w old new row col in_rows in_columns takes = grind (arith, cell_marked, mark_none)

-- a document from its parts
pub assembled : (p p' : Colours) (r r' : List (List ℕ)) (g : List ℕ) (m : List (List ℕ)) → p' ≡ p → r' ≡ r → marks_of (length r) (width_of r) g ≡ m
    → design p' r' (marks_of (length r') (width_of r') g) ≡ design p r m
assembled p p' r r' g m same_palette same_rows same_marks = grind (arith, design, length, marks_of, width_of)

pub ruleset marking = (mark_is_given, given_is_marked, is_design)
