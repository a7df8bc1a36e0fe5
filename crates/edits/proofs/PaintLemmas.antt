-- Where an edit paints, and the cells that it changes one by one.
use Rattle.std.proofs.Common.{◌≡◌, ◌≢◌, ℕ, ◌+◌, ◌<◌, ◌≤◌, ◌⊎◌, inl, inr, false, List, [], ◌∷◌, ◌++◌, length, append-nil, append_assoc, refl, sym, ap, ◌∙◌, arith}
use Rattle.std.proofs.lemmas.Bool.Decides.{nat_tests}
use Rattle.picture.specs.Rows.{width_of, cell_at, Rows}
use Rattle.edits.specs.declared.edit.Edit.{Edit}
use Rattle.edits.specs.declared.edit.Edit.TheVariants.{Paint, Fill}
use Rattle.edits.specs.Edit.{colour_after}
use Rattle.edits.specs.Conditions.{is_outside}
use Rattle.edits.specs.Note.{Cell, joined, changed_cell, changed_cells, changed_in_row}
use Rattle.edits.specs.Areas.{IsArea, Leaves}
use Rattle.edits.proofs.CellLemmas.{joined_none, joined_more, joined_gap, joined_has, changed_cell_is, unchanged_cell, Has}

-- the places that edits name lie in the picture
pub paint_inside : (rows : Rows) (row col colour : ℕ) → is_outside rows (Paint row col colour) ≡ false → (row < length rows) × (col < width_of rows)
paint_inside rows row col colour e = grind (arith, nat_tests)

pub fill_inside : (rows : Rows) (top left bottom right colour : ℕ) → is_outside rows (Fill top left bottom right colour) ≡ false
    → (bottom < length rows) × (right < width_of rows) × (top ≤ bottom) × (left ≤ right)
fill_inside rows top left bottom right colour e = grind (arith, nat_tests)

paint_leaves : (row col colour i j x : ℕ) → (i ≢ row) ⊎ (j ≢ col) → colour_after (Paint row col colour) i j x ≡ x
paint_leaves row col colour i j x other = grind (arith, nat_tests)

fill_leaves : (top left bottom right colour i j x : ℕ) → ((i < top) ⊎ (bottom + 1 ≤ i)) ⊎ ((j < left) ⊎ (right + 1 ≤ j)) → colour_after (Fill top left bottom right colour) i j x ≡ x
fill_leaves top left bottom right colour i j x other = grind (arith, nat_tests)

pub paint_area : (rows : Rows) (row col colour : ℕ) → is_outside rows (Paint row col colour) ≡ false → IsArea (Paint row col colour) rows row (row + 1) col (col + 1)
paint_area rows row col colour e = grind (arith, cell_at, paint_inside, paint_leaves)

pub fill_area : (rows : Rows) (top left bottom right colour : ℕ) → is_outside rows (Fill top left bottom right colour) ≡ false
    → IsArea (Fill top left bottom right colour) rows top (bottom + 1) left (right + 1)
fill_area rows top left bottom right colour e =
    let inside = fill_inside rows top left bottom right colour e in
    record {
      rows_fit = omega arith;
      columns_fit = omega arith;
      rows_ordered = omega arith;
      columns_ordered = omega arith;
      other_rows = λ i j _ _ out. fill_leaves top left bottom right colour i j (cell_at rows i j) (inl out);
      other_columns = λ i j _ _ out. fill_leaves top left bottom right colour i j (cell_at rows i j) (inr out);
    }

pub whole_area : (e : Edit) (rows : Rows) → IsArea e rows 0 (length rows) 0 (width_of rows)
whole_area e rows = grind arith

pub ruleset areas = (paint_inside, fill_inside, paint_area, fill_area, whole_area)

module _ (e : Edit) (rows : Rows) (top below left beyond : ℕ) (is : IsArea e rows top below left beyond) where
  -- along a row
  pub row_before : (i : ℕ) → i < length rows → joined (changed_cell e rows i) left ≡ []
  row_before i in_rows =
      joined_gap (changed_cell e rows i) 0 left (omega arith)
      (λ j _ low. unchanged_cell e rows i j (is.other_columns i j in_rows (omega (arith, is.columns_fit, is.columns_ordered)) (inl low)))
      ∙ joined_none (changed_cell e rows i)

  row_behind : (i : ℕ) → i < length rows → changed_in_row e rows i ≡ joined (changed_cell e rows i) beyond
  row_behind i in_rows = grind (arith, changed_cell, joined_gap, unchanged_cell, width_of)

  pub row_begins : (i : ℕ) (cells : List Cell) → i < length rows → cells ≡ cells ++ joined (changed_cell e rows i) left
  row_begins i cells in_rows = rw (row_before i in_rows, append-nil cells) refl

  pub row_ends : (i n : ℕ) (cells start : List Cell) → i < length rows → n ≡ beyond → cells ≡ start ++ joined (changed_cell e rows i) n → cells ≡ start ++ changed_in_row e rows i
  row_ends i n cells start in_rows end same = rw (row_behind i in_rows, ← end) same

  pub row_ends_none : (i n : ℕ) → i < length rows → n ≡ beyond → joined (changed_cell e rows i) n ≡ [] → changed_in_row e rows i ≡ []
  row_ends_none i n in_rows end none = row_behind i in_rows ∙ (ap (joined (changed_cell e rows i)) (sym end) ∙ none)

  -- row by row
  other_row : (i : ℕ) → i < length rows → (i < top) ⊎ (below ≤ i) → changed_in_row e rows i ≡ []
  other_row i in_rows out =
      joined_gap (changed_cell e rows i) 0 (width_of rows) (omega arith)
      (λ j _ in_columns. unchanged_cell e rows i j (is.other_rows i j in_rows in_columns out))
      ∙ joined_none (changed_cell e rows i)

  pub rows_begin : joined (changed_in_row e rows) top ≡ []
  rows_begin =
      joined_gap (changed_in_row e rows) 0 top (omega arith)
      (λ i _ low. other_row i (omega (arith, is.rows_fit, is.rows_ordered)) (inl low))
      ∙ joined_none (changed_in_row e rows)

  pub rows_end : (n : ℕ) → n ≡ below → changed_cells e rows ≡ joined (changed_in_row e rows) n
  rows_end n end = rw end (joined_gap (changed_in_row e rows) below (length rows) is.rows_fit (λ i high in_rows. other_row i in_rows (inr high)))

-- one cell more
pub cell_more : (e : Edit) (rows : Rows) (i j : ℕ) (cells start : List Cell) → cells ≡ start ++ joined (changed_cell e rows i) j → colour_after e i j (cell_at rows i j) ≢ cell_at rows i j
    → cells ++ (i, j, cell_at rows i j) ∷ [] ≡ start ++ joined (changed_cell e rows i) (j + 1)
cell_more e rows i j cells start same other =
    rw (joined_more (changed_cell e rows i) j, changed_cell_is e rows i j other)
    (ap (λ xs. xs ++ (i, j, cell_at rows i j) ∷ []) same ∙ append_assoc start (joined (changed_cell e rows i) j) ((i, j, cell_at rows i j) ∷ []))

pub cell_same : (e : Edit) (rows : Rows) (i j : ℕ) (cells start : List Cell) → cells ≡ start ++ joined (changed_cell e rows i) j → Leaves e rows i j
    → cells ≡ start ++ joined (changed_cell e rows i) (j + 1)
cell_same e rows i j cells start same leaves =
    same ∙ ap (λ xs. start ++ xs)
    (sym (joined_more (changed_cell e rows i) j ∙ (ap (λ xs. joined (changed_cell e rows i) j ++ xs) (unchanged_cell e rows i j leaves) ∙ append-nil (joined (changed_cell e rows i) j))))

pub none_more : (e : Edit) (rows : Rows) (i j : ℕ) → joined (changed_cell e rows i) j ≡ [] → Leaves e rows i j → joined (changed_cell e rows i) (j + 1) ≡ []
none_more e rows i j none leaves = rw (joined_more (changed_cell e rows i) j, none) (unchanged_cell e rows i j leaves)

has_some : {X : Type 0} (xs : List X) (x : X) → Has xs x → xs ≢ []
has_some xs x h none = absurd (rw none at h)

pub row_some : (e : Edit) (rows : Rows) (i j : ℕ) → j < width_of rows → colour_after e i j (cell_at rows i j) ≢ cell_at rows i j → changed_in_row e rows i ≢ []
row_some e rows i j in_columns other =
    has_some (changed_in_row e rows i) (i, j, cell_at rows i j)
    (joined_has (changed_cell e rows i) (width_of rows) j (i, j, cell_at rows i j) in_columns (rw (changed_cell_is e rows i j other) (inl refl)))

-- one row more
pub row_more : (e : Edit) (rows : Rows) (i : ℕ) (cells more : List Cell) → cells ≡ joined (changed_in_row e rows) i → more ≡ cells ++ changed_in_row e rows i
    → more ≡ joined (changed_in_row e rows) (i + 1)
row_more e rows i cells more same is = rw (joined_more (changed_in_row e rows) i, ← same) is

pub row_none_more : (e : Edit) (rows : Rows) (i : ℕ) → joined (changed_in_row e rows) i ≡ [] → changed_in_row e rows i ≡ [] → joined (changed_in_row e rows) (i + 1) ≡ []
row_none_more e rows i none here = rw (joined_more (changed_in_row e rows) i, none) here

cons_has : {X : Type 0} (xs : List X) → xs ≢ [] → (x : X) × Has xs x
cons_has [] some = absurd (some refl)
cons_has (x ∷ xs) some = (x, inl refl)

pub some_row : (e : Edit) (rows : Rows) (i : ℕ) → i < length rows → changed_in_row e rows i ≢ [] → changed_cells e rows ≢ []
some_row e rows i in_rows some =
    let h = cons_has (changed_in_row e rows i) some in
    has_some (changed_cells e rows) h.0 (joined_has (changed_in_row e rows) (length rows) i h.0 in_rows h.1)

pub ruleset painting = (row_begins, row_ends, row_before, row_ends_none, rows_begin, rows_end, cell_more, cell_same, none_more, row_some, row_more, row_none_more, some_row)
