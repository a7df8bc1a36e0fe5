-- Grids cell by cell: what a grid made from a function has, and when two grids are the same.
use Rattle.std.proofs.Common.{◌≡◌, ℕ, ◌<◌, ◌≤◌, ◌⊎◌, inl, inr, List, [], length, get_or, set, map, refl, sym, ap, ◌∙◌, arith}
use Rattle.std.specs.List.{range_with_len}
use Rattle.std.proofs.lemmas.Bool.{cases_lt, cases_eq}
use Rattle.std.proofs.lemmas.List.{ext_get_or, length-set, get_or-set_same, get_or-set_other, get_or_past}
use Rattle.std.proofs.lemmas.List.FromFn.{length-map-range_with_len, get_or-map-range_with_len}
use Rattle.picture.specs.Picture.{IsPicture}
use Rattle.picture.specs.Rows.{width_of, row_at, cell_at, with_cell, Rows}
use Rattle.edits.specs.Design.{IsGrid, grid}

row_of_grid : (h w : ℕ) (value : ℕ → ℕ → ℕ) (i : ℕ) → i < h → row_at (grid h w value) i ≡ map (λ j. value i j) (range_with_len 0 w)
unfolding grid
row_of_grid h w value i within = get_or-map-range_with_len (λ i. map (λ j. value i j) (range_with_len 0 w)) 0 h i i [] within (omega arith)

pub length-grid : (h w : ℕ) (value : ℕ → ℕ → ℕ) → length (grid h w value) ≡ h
unfolding grid
length-grid h w value = length-map-range_with_len (λ i. map (λ j. value i j) (range_with_len 0 w)) 0 h

pub grid_is_grid : (h w : ℕ) (value : ℕ → ℕ → ℕ) → IsGrid h w (grid h w value)
grid_is_grid h w value = record {
  row_count = length-grid h w value;
  row_lengths = λ i within. ap length (row_of_grid h w value i within) ∙ length-map-range_with_len (λ j. value i j) 0 w;
}

pub width_of-grid : (h w : ℕ) (value : ℕ → ℕ → ℕ) → 0 < h → width_of (grid h w value) ≡ w
width_of-grid h w value some = (grid_is_grid h w value).row_lengths 0 some

pub cell_at-grid : (h w : ℕ) (value : ℕ → ℕ → ℕ) (i j : ℕ) → i < h → j < w → cell_at (grid h w value) i j ≡ value i j
cell_at-grid h w value i j in_rows in_columns = grind (arith, get_or, get_or-map-range_with_len, row_of_grid)

pub picture_is_grid : (rows : Rows) → IsPicture rows → IsGrid (length rows) (width_of rows) rows
picture_is_grid rows is = record { row_count = refl; row_lengths = is.rectangular }

-- grids of one size with the same cells
pub same_grid : (h w : ℕ) (a b : List (List ℕ)) → IsGrid h w a → IsGrid h w b → ((i j : ℕ) → i < h → j < w → cell_at a i j ≡ cell_at b i j) → a ≡ b
same_grid h w a b is_a is_b same =
    ext_get_or [] a b (is_a.row_count ∙ sym is_b.row_count)
    (λ i within.
    let inside : i < h = omega (arith, is_a.row_count) in
    ext_get_or 0 (get_or a i []) (get_or b i []) (is_a.row_lengths i inside ∙ sym (is_b.row_lengths i inside))
    (λ j in_row. same i j inside (omega (arith, is_a.row_lengths i inside))))

pub grid_same : (h w : ℕ) (value : ℕ → ℕ → ℕ) (rows : Rows) → IsGrid h w rows → ((i j : ℕ) → i < h → j < w → value i j ≡ cell_at rows i j) → grid h w value ≡ rows
grid_same h w value rows is same =
    same_grid h w (grid h w value) rows (grid_is_grid h w value) is (λ i j in_rows in_columns. cell_at-grid h w value i j in_rows in_columns ∙ same i j in_rows in_columns)

-- outside a grid there is nothing
pub cell_at-past_rows : (rows : Rows) (i j : ℕ) → length rows ≤ i → cell_at rows i j ≡ 0
cell_at-past_rows rows i j past = ap (λ row. get_or row j 0) (get_or_past rows i [] past)

pub cell_at-past_columns : (h w : ℕ) (rows : Rows) (i j : ℕ) → IsGrid h w rows → w ≤ j → cell_at rows i j ≡ 0
cell_at-past_columns h w rows i j is past = grind (arith, cell_at-past_rows, get_or, get_or_past)

-- a bound of the values is one of all cells
pub grid_below : (h w n : ℕ) (value : ℕ → ℕ → ℕ) → 0 < n → ((i j : ℕ) → i < h → j < w → value i j < n) → (i j : ℕ) → cell_at (grid h w value) i j < n
grid_below h w n value some below i j =
    elim (cases_lt i h) [
      | inl in_rows ↦
          elim (cases_lt j w) [
            | inl in_columns ↦ rw (cell_at-grid h w value i j in_rows in_columns) (below i j in_rows in_columns)
            | inr past ↦ rw (cell_at-past_columns h w (grid h w value) i j (grid_is_grid h w value) past) some
          ]
      | inr past ↦ rw (cell_at-past_rows (grid h w value) i j (omega (arith, length-grid h w value))) some
    ]

-- one cell changed
pub cell_at-with_same : (h w : ℕ) (rows : Rows) (i j x : ℕ) → IsGrid h w rows → i < h → j < w → cell_at (with_cell rows i j x) i j ≡ x
cell_at-with_same h w rows i j x is in_rows in_columns = grind (arith, get_or, get_or-set_same, set)

pub place_cases : (i j a b : ℕ) → ((i ≡ a) × (j ≡ b)) ⊎ ((i ≡ a) × (j ≡ b) → ⊥)
place_cases i j a b = grind arith

pub cell_at-with_other : (h w : ℕ) (rows : Rows) (i j x a b : ℕ) → IsGrid h w rows → i < h → ((a ≡ i) × (b ≡ j) → ⊥) → cell_at (with_cell rows i j x) a b ≡ cell_at rows a b
cell_at-with_other h w rows i j x a b is in_rows other = grind (arith, get_or, get_or-set_other, get_or-set_same, set)

pub with_cell_is_grid : (h w : ℕ) (rows : Rows) (i j x : ℕ) → IsGrid h w rows → i < h → IsGrid h w (with_cell rows i j x)
with_cell_is_grid h w rows i j x is in_rows = record {
  row_count = length-set rows i (set (get_or rows i []) j x) ∙ is.row_count;
  row_lengths = λ k within.
      elim (cases_eq k i) [
        | inl e ↦
            rw e (ap length (get_or-set_same rows i (set (get_or rows i []) j x) [] (omega (arith, is.row_count)))
            ∙ (length-set (get_or rows i []) j x ∙ is.row_lengths i in_rows))
        | inr other ↦ ap length (get_or-set_other rows i k (set (get_or rows i []) j x) [] other) ∙ is.row_lengths k within
      ];
}
