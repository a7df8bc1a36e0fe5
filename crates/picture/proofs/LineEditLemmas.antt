-- What an edit of a picture's flat list of cells does to its rows.
use Rattle.std.proofs.Common.{◌≡◌, ℕ, zero, suc, ◌+◌, ◌*◌, ◌-◌, ◌<◌, ◌≤◌, List, [], ◌∷◌, ◌++◌, length, set, take, drop, replicate, arith, refl, ap, ◌∙◌, sym, subst}
use Rattle.std.specs.List.{All, concat, insert, remove, swap}
use Rattle.std.proofs.lemmas.List.{append_assoc, length-set, drop_at}
use Rattle.std.proofs.lemmas.List.Edits.{swap_is}
use Rattle.std.proofs.lemmas.List.Elements.{All-get_or, All-head, All-set, All-tail}
use Rattle.std.proofs.lemmas.List.Folds.{concat-append}
use Rattle.std.proofs.Math.Seq.{take-append-add, drop-append-add}
use Rattle.picture.specs.declared.picture.TheConstants.{MAX_SIDE}
use Rattle.picture.specs.declared.line_id.Axis.{Axis}
use Rattle.picture.specs.declared.line_id.Axis.TheVariants.{Across, Down}
use Rattle.picture.specs.declared.line_id.LineId.{LineId}
use Rattle.picture.specs.Picture.{AreCells, part, with_part}
use Rattle.picture.specs.Rows.{rows_of, width_of, row_at, lines_along, with_line, without_line, line_inserted, line_deleted, lines_swapped, Rows}
use Rattle.picture.proofs.FlatLaws.{length-rows_of, row_at-rows_of}
use Rattle.picture.proofs.FlatLemmas.{facts}
use Rattle.picture.proofs.GridLemmas.{IsRow, IsGrid, concat-rows_of, rows_of-concat, grid_of, cells_of, grid-row_inserted, grid-row_removed, grid-rows_swapped, grid-mapped, inserts_cell, removes_cell}
use Rattle.picture.proofs.GridLemmas.{swaps_cells, with_gap, without_cell, with_exchange}

-- ---- whole rows in the flat list

take_past : (xs ys : List ℕ) (n k : ℕ) → k ≡ length xs + n → take k (xs ++ ys) ≡ xs ++ take n ys
take_past xs ys n k e = rw e (take-append-add xs ys n)

drop_past : (xs ys : List ℕ) (n k : ℕ) → k ≡ length xs + n → drop k (xs ++ ys) ≡ drop n ys
drop_past xs ys n k e = rw e (drop-append-add xs ys n)

take-concat : (width n : ℕ) (rows : Rows) → All (IsRow width) rows → n ≤ length rows → take (n * width) (concat rows) ≡ concat (take n rows)
take-concat width zero rows all within = let none : 0 * width ≡ 0 = omega arith in rw none refl
take-concat width (suc n) [] all within = absurd (omega (arith, within))
take-concat width (suc n) (row ∷ rows) all within =
    let wide = (All-head (IsRow width) row rows all).wide in
    take_past row (concat rows) (n * width) (suc n * width) (omega arith) ∙ ap (λ xs. row ++ xs) (take-concat width n rows (All-tail (IsRow width) row rows all) (omega (arith, within)))

drop-concat : (width n : ℕ) (rows : Rows) → All (IsRow width) rows → n ≤ length rows → drop (n * width) (concat rows) ≡ concat (drop n rows)
drop-concat width zero rows all within = let none : 0 * width ≡ 0 = omega arith in rw none refl
drop-concat width (suc n) [] all within = absurd (omega (arith, within))
drop-concat width (suc n) (row ∷ rows) all within =
    let wide = (All-head (IsRow width) row rows all).wide in
    drop_past row (concat rows) (n * width) (suc n * width) (omega arith) ∙ drop-concat width n rows (All-tail (IsRow width) row rows all) (omega (arith, within))

concat-set : (width : ℕ) (rows : Rows) (i : ℕ) (row : List ℕ) → All (IsRow width) rows → length row ≡ width → i < length rows → concat (set rows i row) ≡ with_part (concat rows) (i * width) row
concat-set width [] i row all wide lt = absurd (omega (arith, lt))
concat-set width (first ∷ rows) zero row all wide lt =
    let none : 0 * width ≡ 0 = omega arith in
    let long : 0 + length row ≡ width = omega arith in
    rw (none, long) (ap (λ xs. row ++ xs) (sym (drop_at first (concat rows) width (All-head (IsRow width) first rows all).wide)))
concat-set width (first ∷ rows) (suc i) row all wide lt =
    let first_wide = (All-head (IsRow width) first rows all).wide in
    ap (λ xs. first ++ xs) (concat-set width rows i row (All-tail (IsRow width) first rows all) wide (omega (arith, lt)))
    ∙ sym (append_assoc first (take (i * width) (concat rows)) (row ++ drop (i * width + length row) (concat rows)))
    ∙ ap (λ xs. xs ++ (row ++ drop (i * width + length row) (concat rows))) (sym (take_past first (concat rows) (i * width) (suc i * width) (omega arith)))
    ∙ ap (λ xs. take (suc i * width) (first ++ concat rows) ++ (row ++ xs)) (sym (drop_past first (concat rows) (i * width + length row) (suc i * width + length row) (omega arith)))

-- ---- an edit of the flat list as an edit of rows

module _ (height width : ℕ) (old : List ℕ) (is : AreCells height width old) where
  abbrev rows : List (List ℕ)
  rows = rows_of height width old

  all : All (IsRow width) rows
  all = (grid_of height width old is).each

  tall : length rows ≡ height
  tall = length-rows_of height width old

  whole : concat rows ≡ old
  whole = concat-rows_of height width old is.count

  row_put_in : (at : ℕ) → at ≤ height → take (at * width) old ++ (replicate width 0 ++ drop (at * width) old) ≡ concat (insert rows at (replicate width 0))
  row_put_in at place =
      let within : at ≤ length rows = omega (arith, tall, place) in
      ap (λ xs. take (at * width) xs ++ (replicate width 0 ++ drop (at * width) xs)) (sym whole)
      ∙ ap (λ xs. xs ++ (replicate width 0 ++ drop (at * width) (concat rows))) (take-concat width at rows all within)
      ∙ ap (λ xs. concat (take at rows) ++ (replicate width 0 ++ xs)) (drop-concat width at rows all within)
      ∙ sym (concat-append (take at rows) (replicate width 0 ∷ drop at rows))

  row_taken_out : (at : ℕ) → at < height → take (at * width) old ++ drop (at * width + width) old ≡ concat (remove rows at)
  row_taken_out at place =
      let within : at ≤ length rows = omega (arith, tall, place) in
      let after : suc at ≤ length rows = omega (arith, tall, place) in
      let next : at * width + width ≡ suc at * width = omega arith in
      ap (λ xs. take (at * width) xs ++ drop (at * width + width) xs) (sym whole)
      ∙ ap (λ xs. xs ++ drop (at * width + width) (concat rows)) (take-concat width at rows all within)
      ∙ ap (λ k. concat (take at rows) ++ drop k (concat rows)) next
      ∙ ap (λ xs. concat (take at rows) ++ xs) (drop-concat width (suc at) rows all after)
      ∙ sym (concat-append (take at rows) (drop (suc at) rows))

  rows_exchanged : (i j : ℕ) → i < height → j < height → with_part (with_part old (i * width) (part old (j * width) width)) (j * width) (part old (i * width) width) ≡ concat (swap rows i j)
  rows_exchanged i j in_i in_j =
      let row_i = row_at rows i in
      let row_j = row_at rows j in
      let lt_i : i < length rows = omega (arith, tall, in_i) in
      let lt_j : j < length rows = omega (arith, tall, in_j) in
      let is_i = All-get_or (IsRow width) rows i [] lt_i all in
      let is_j = All-get_or (IsRow width) rows j [] lt_j all in
      ap (λ row. with_part (with_part old (i * width) row) (j * width) (part old (i * width) width)) (sym (row_at-rows_of height width old j in_j))
      ∙ ap (λ row. with_part (with_part old (i * width) row_j) (j * width) row) (sym (row_at-rows_of height width old i in_i))
      ∙ ap (λ xs. with_part (with_part xs (i * width) row_j) (j * width) row_i) (sym whole)
      ∙ ap (λ xs. with_part xs (j * width) row_i) (sym (concat-set width rows i row_j all is_j.wide lt_i))
      ∙ sym (concat-set width (set rows i row_j) j row_i (All-set (IsRow width) rows i row_j is_j all) is_i.wide (omega (arith, length-set rows i row_j, lt_j)))
      ∙ ap concat (swap_is rows i j [] lt_i lt_j)

-- a flat list of cells that is these rows
pub record Lies (height width : ℕ) (cells : List ℕ) (rows : Rows) : Type 0 where
  pub reads : rows_of height width cells ≡ rows
  pub are : AreCells height width cells

lies_of : (height width : ℕ) (cells : List ℕ) (rows : Rows) → 0 < height → height ≤ MAX_SIDE → 0 < width → width ≤ MAX_SIDE → IsGrid height width rows → cells ≡ concat rows
    → Lies height width cells rows
lies_of height width cells rows some_rows rows_fit some_columns columns_fit is e =
    subst (λ xs. Lies height width xs rows) (sym e) (record { reads = rows_of-concat height width rows is; are = cells_of height width rows some_rows rows_fit some_columns columns_fit is })

module _ (height width : ℕ) (old new : List ℕ) (now : Rows) (e : rows_of height width old ≡ now) (is : AreCells height width old) where
  abbrev before : List (List ℕ)
  before = rows_of height width old

  grid : IsGrid height width before
  grid = grid_of height width old is

  is_tall : length now ≡ height
  is_tall = (facts height width old now e is).tall

  is_wide : width_of now ≡ width
  is_wide = (facts height width old now e is).wide

  pub row_inserted : (line : LineId) → line.axis ≡ Across → line.at ≤ lines_along line.axis now → lines_along line.axis now < MAX_SIDE
      → new ≡ take (line.at * width) old ++ (replicate width 0 ++ drop (line.at * width) old) → Lies (height + 1) width new (line_inserted now line)
  row_inserted line across place room made =
      let at_place : line.at ≤ height = omega (arith, is_tall, subst (λ axis. line.at ≤ lines_along axis now) across place) in
      let has_room : height < MAX_SIDE = omega (arith, is_tall, subst (λ axis. lines_along axis now < MAX_SIDE) across room) in
      let target : insert before line.at (replicate width 0) ≡ line_inserted now line =
      ap (λ grid. insert grid line.at (replicate width 0)) e ∙ ap (λ n. insert now line.at (replicate n 0)) (sym is_wide) ∙ ap (λ axis. with_line axis line.at now) (sym across) in
      subst (Lies (height + 1) width new) target
      (lies_of (height + 1) width new (insert before line.at (replicate width 0)) (omega arith) (omega arith) is.has_column is.columns_fit
      (grid-row_inserted height width before line.at grid at_place) (made ∙ row_put_in height width old is line.at at_place))

  pub column_inserted : (line : LineId) → line.axis ≡ Down → line.at ≤ lines_along line.axis now → lines_along line.axis now < MAX_SIDE
      → new ≡ concat (with_line Down line.at (rows_of height width old)) → Lies height (width + 1) new (line_inserted now line)
  column_inserted line down place room made =
      let at_place : line.at ≤ width = omega (arith, is_wide, subst (λ axis. line.at ≤ lines_along axis now) down place) in
      let has_room : width < MAX_SIDE = omega (arith, is_wide, subst (λ axis. lines_along axis now < MAX_SIDE) down room) in
      let target : with_line Down line.at before ≡ line_inserted now line = ap (λ grid. with_line Down line.at grid) e ∙ ap (λ axis. with_line axis line.at now) (sym down) in
      subst (Lies height (width + 1) new) target
      (lies_of height (width + 1) new (with_line Down line.at before) is.has_row is.rows_fit (omega arith) (omega arith)
      (grid-mapped height width (width + 1) (with_gap line.at) before (inserts_cell width line.at at_place) grid) made)

  pub row_deleted : (line : LineId) → line.axis ≡ Across → line.at < lines_along line.axis now → 1 < lines_along line.axis now
      → new ≡ take (line.at * width) old ++ drop (line.at * width + width) old → Lies (height - 1) width new (line_deleted now line)
  row_deleted line across has others made =
      let place : line.at < height = omega (arith, is_tall, subst (λ axis. line.at < lines_along axis now) across has) in
      let left : 1 < height = omega (arith, is_tall, subst (λ axis. 1 < lines_along axis now) across others) in
      let fits = is.rows_fit in
      let target : remove before line.at ≡ line_deleted now line = ap (λ grid. remove grid line.at) e ∙ ap (λ axis. without_line axis line.at now) (sym across) in
      subst (Lies (height - 1) width new) target
      (lies_of (height - 1) width new (remove before line.at) (omega arith) (omega arith) is.has_column is.columns_fit
      (grid-row_removed height width before line.at grid place) (made ∙ row_taken_out height width old is line.at place))

  pub column_deleted : (line : LineId) → line.axis ≡ Down → line.at < lines_along line.axis now → 1 < lines_along line.axis now
      → new ≡ concat (without_line Down line.at (rows_of height width old)) → Lies height (width - 1) new (line_deleted now line)
  column_deleted line down has others made =
      let place : line.at < width = omega (arith, is_wide, subst (λ axis. line.at < lines_along axis now) down has) in
      let left : 1 < width = omega (arith, is_wide, subst (λ axis. 1 < lines_along axis now) down others) in
      let fits = is.columns_fit in
      let target : without_line Down line.at before ≡ line_deleted now line = ap (λ grid. without_line Down line.at grid) e ∙ ap (λ axis. without_line axis line.at now) (sym down) in
      subst (Lies height (width - 1) new) target
      (lies_of height (width - 1) new (without_line Down line.at before) is.has_row is.rows_fit (omega arith) (omega arith)
      (grid-mapped height width (width - 1) (without_cell line.at) before (removes_cell width line.at place) grid) made)

  pub rows_swapped : (axis : Axis) (i j : ℕ) → axis ≡ Across → i < lines_along axis now → j < lines_along axis now
      → new ≡ with_part (with_part old (i * width) (part old (j * width) width)) (j * width) (part old (i * width) width) → Lies height width new (lines_swapped axis i j now)
  rows_swapped axis i j across first second made =
      let in_i : i < height = omega (arith, is_tall, subst (λ along. i < lines_along along now) across first) in
      let in_j : j < height = omega (arith, is_tall, subst (λ along. j < lines_along along now) across second) in
      let target : swap before i j ≡ lines_swapped axis i j now = ap (λ grid. swap grid i j) e ∙ ap (λ along. lines_swapped along i j now) (sym across) in
      subst (Lies height width new) target
      (lies_of height width new (swap before i j) is.has_row is.rows_fit is.has_column is.columns_fit (grid-rows_swapped height width before i j grid in_i in_j)
      (made ∙ rows_exchanged height width old is i j in_i in_j))

  pub columns_swapped : (axis : Axis) (i j : ℕ) → axis ≡ Down → i < lines_along axis now → j < lines_along axis now
      → new ≡ concat (lines_swapped Down i j (rows_of height width old)) → Lies height width new (lines_swapped axis i j now)
  columns_swapped axis i j down first second made =
      let in_i : i < width = omega (arith, is_wide, subst (λ along. i < lines_along along now) down first) in
      let in_j : j < width = omega (arith, is_wide, subst (λ along. j < lines_along along now) down second) in
      let target : lines_swapped Down i j before ≡ lines_swapped axis i j now = ap (λ grid. lines_swapped Down i j grid) e ∙ ap (λ along. lines_swapped along i j now) (sym down) in
      subst (Lies height width new) target
      (lies_of height width new (lines_swapped Down i j before) is.has_row is.rows_fit is.has_column is.columns_fit
      (grid-mapped height width width (with_exchange i j) before (swaps_cells width i j in_i in_j) grid) made)
