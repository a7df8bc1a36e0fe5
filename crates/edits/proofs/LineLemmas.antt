-- Lines inserted, deleted and exchanged, and all of it taken back.
use Rattle.std.proofs.Common.{◌≡◌, ◌≢◌, ℕ, zero, suc, ◌<◌, ◌≤◌, inl, inr, ◌==◌, List, [], ◌∷◌, length, get_or, set, map, replicate, refl, sym, ap, subst, ◌∙◌, arith}
use Rattle.std.specs.List.{insert, remove, swap}
use Rattle.std.proofs.lemmas.Bool.{cases_eq, ne_eqb, eqb-false}
use Rattle.std.proofs.lemmas.List.{ext_get_or, length-map, length-set, length-replicate, map-id, get_or-map, get_or-replicate, get_or-set_same, get_or-set_other}
use Rattle.std.proofs.lemmas.List.Edits.{length-swap, get_or-remove_below, get_or-remove_above}
use Rattle.picture.specs.declared.line_id.Axis.{Axis}
use Rattle.picture.specs.declared.line_id.Axis.TheVariants.{Across, Down}
use Rattle.picture.specs.Rows.{width_of, cell_at, with_line, without_line, lines_swapped, Rows}
use Rattle.clues.specs.Change.{line_at}
use Rattle.clues.specs.Places.{exchanged}
use Rattle.clues.proofs.EditedPictures.{exchanged-exchanged, get_or-swap}
use Rattle.clues.proofs.LawLemmas.{remove-insert}
use Rattle.picture.specs.CrossingLines.{crossing}
use Rattle.edits.specs.Design.{IsGrid, Marks}
use Rattle.edits.specs.Note.{Cell, with_cells, cells_of_line, givens_of_line, cells_along, cell_on, given_on, place_on, as_mark}
use Rattle.edits.proofs.CellLemmas.{Has, has_from_map, has_map, has_unless, joined_from, joined_has, unless_has, with_cells_give}

-- lists
insert-remove : {X : Type 0} (xs : List X) (i : ℕ) (y : X) → i < length xs → insert (remove xs i) i y ≡ set xs i y
insert-remove [] i y lt = absurd (omega arith)
insert-remove (x ∷ xs) zero y lt = refl
insert-remove (x ∷ xs) (suc i) y lt = ap (λ r. x ∷ r) (insert-remove xs i y (omega arith))

swap-swap : {X : Type 0} (xs : List X) (i j : ℕ) (d : X) → i < length xs → j < length xs → swap (swap xs i j) i j ≡ xs
swap-swap xs i j d in_i in_j =
    let ys = swap xs i j in
    ext_get_or d (swap ys i j) xs (length-swap ys i j ∙ length-swap xs i j)
    (λ k _.
    ap (λ n. get_or (swap ys i j) n d) (sym (exchanged-exchanged i j k))
    ∙ (get_or-swap ys i j (exchanged i j k) d (omega (arith, length-swap xs i j)) (omega (arith, length-swap xs i j)) ∙ get_or-swap xs i j k d in_i in_j))

map_after : (f g k : List ℕ → List ℕ) (width : ℕ) → ((row : List ℕ) → length row ≡ width → f (g row) ≡ k row) → (rows : Rows) → ((i : ℕ) → i < length rows → length (get_or rows i []) ≡ width)
    → map f (map g rows) ≡ map k rows
map_after f g k width after [] equal = refl
map_after f g k width after (row ∷ rows) equal =
    ap (λ x. x ∷ map f (map g rows)) (after row (equal 0 (omega arith)))
    ∙ ap (λ xs. k row ∷ xs) (map_after f g k width after rows (λ i h. equal (suc i) (omega (arith, h))))

map_back : (f g : List ℕ → List ℕ) (width : ℕ) → ((row : List ℕ) → length row ≡ width → f (g row) ≡ row) → (rows : Rows) → ((i : ℕ) → i < length rows → length (get_or rows i []) ≡ width)
    → map f (map g rows) ≡ rows
map_back f g width back rows equal = map_after f g (λ row. row) width back rows equal ∙ map-id rows

rows_wide : (h w : ℕ) (rows : Rows) → IsGrid h w rows → (i : ℕ) → i < length rows → length (get_or rows i []) ≡ w
rows_wide h w rows is = λ i within. is.row_lengths i (omega (arith, is.row_count))

-- how many lines a grid has
abbrev pub size_along : Axis → ℕ → ℕ → ℕ
size_along Across h w = h
size_along Down h w = w

-- an inserted line deleted, and an exchange made twice
pub delete_insert : (axis : Axis) (at h w : ℕ) (rows : Rows) → IsGrid h w rows → at ≤ size_along axis h w → without_line axis at (with_line axis at rows) ≡ rows
delete_insert Across at h w rows is le = remove-insert rows at (replicate (width_of rows) 0) (omega (arith, is.row_count))
delete_insert Down at h w rows is le =
    map_back (λ row. remove row at) (λ row. insert row at 0) w (λ row wide. remove-insert row at 0 (omega (arith, wide))) rows (rows_wide h w rows is)

pub swap_back : (axis : Axis) (first second h w : ℕ) (rows : Rows) → IsGrid h w rows → first < size_along axis h w → second < size_along axis h w
    → lines_swapped axis first second (lines_swapped axis first second rows) ≡ rows
swap_back Across first second h w rows is f s = swap-swap rows first second [] (omega (arith, is.row_count)) (omega (arith, is.row_count))
swap_back Down first second h w rows is f s =
    map_back (λ row. swap row first second) (λ row. swap row first second) w
    (λ row wide. swap-swap row first second 0 (omega (arith, wide)) (omega (arith, wide))) rows (rows_wide h w rows is)

-- a line deleted and a line of zeros put in its place
abbrev blanked : Axis → ℕ → ℕ → Rows → List (List ℕ)
blanked Across at w rows = set rows at (replicate w 0)
blanked Down at w rows = map (λ row. set row at 0) rows

pub width_of-remove : (h w at : ℕ) (rows : Rows) → IsGrid h w rows → at < h → 1 < h → width_of (remove rows at) ≡ w
width_of-remove h w at rows is within more = grind (arith, get_or-remove_above, get_or-remove_below, length)

insert_delete : (axis : Axis) (at h w : ℕ) (rows : Rows) → IsGrid h w rows → at < size_along axis h w → 1 < size_along axis h w → with_line axis at (without_line axis at rows) ≡ blanked axis at w rows
insert_delete Across at h w rows is within more =
    ap (λ n. insert (remove rows at) at (replicate n 0)) (width_of-remove h w at rows is within more)
    ∙ insert-remove rows at (replicate w 0) (omega (arith, is.row_count))
insert_delete Down at h w rows is within more =
    map_after (λ row. insert row at 0) (λ row. remove row at) (λ row. set row at 0) w (λ row wide. insert-remove row at 0 (omega (arith, wide))) rows (rows_wide h w rows is)

blanked_is_grid : (axis : Axis) (at h w : ℕ) (rows : Rows) → IsGrid h w rows → at < size_along axis h w → IsGrid h w (blanked axis at w rows)
blanked_is_grid Across at h w rows is within = record {
  row_count = length-set rows at (replicate w 0) ∙ is.row_count;
  row_lengths = λ k in_rows.
      elim (cases_eq k at) [
        | inl e ↦ rw e (ap length (get_or-set_same rows at (replicate w 0) [] (omega (arith, is.row_count))) ∙ length-replicate w 0)
        | inr other ↦ ap length (get_or-set_other rows at k (replicate w 0) [] other) ∙ is.row_lengths k in_rows
      ];
}
blanked_is_grid Down at h w rows is within = record {
  row_count = length-map rows (λ row. set row at 0) ∙ is.row_count;
  row_lengths = λ k in_rows. ap length (get_or-map (λ row. set row at 0) rows k [] [] (omega (arith, is.row_count))) ∙ (length-set (get_or rows k []) at 0 ∙ is.row_lengths k in_rows);
}

-- which line of an axis a cell is on
abbrev along_line : Axis → ℕ → ℕ → ℕ
along_line Across i j = i
along_line Down i j = j

blanked_on : (axis : Axis) (at h w : ℕ) (rows : Rows) (i j : ℕ) → IsGrid h w rows → i < h → j < w → along_line axis i j ≡ at → cell_at (blanked axis at w rows) i j ≡ 0
blanked_on Across at h w rows i j is in_rows in_columns on =
    ap (λ k. cell_at (set rows at (replicate w 0)) k j) on
    ∙ (ap (λ row. get_or row j 0) (get_or-set_same rows at (replicate w 0) [] (omega (arith, is.row_count)))
    ∙ get_or-replicate w j 0 0 in_columns)
blanked_on Down at h w rows i j is in_rows in_columns on =
    ap (λ k. cell_at (map (λ row. set row at 0) rows) i k) on
    ∙ (ap (λ row. get_or row at 0) (get_or-map (λ row. set row at 0) rows i [] [] (omega (arith, is.row_count)))
    ∙ get_or-set_same (get_or rows i []) at 0 0 (omega (arith, is.row_lengths i in_rows)))

blanked_off : (axis : Axis) (at h w : ℕ) (rows : Rows) (i j : ℕ) → IsGrid h w rows → i < h → along_line axis i j ≢ at → cell_at (blanked axis at w rows) i j ≡ cell_at rows i j
blanked_off Across at h w rows i j is in_rows off = ap (λ row. get_or row j 0) (get_or-set_other rows at i (replicate w 0) [] off)
blanked_off Down at h w rows i j is in_rows off =
    ap (λ row. get_or row j 0) (get_or-map (λ row. set row at 0) rows i [] [] (omega (arith, is.row_count))) ∙ get_or-set_other (get_or rows i []) at j 0 0 off

-- the place of a cell, from its line and its position along it
place_on_line : (axis : Axis) (at h w k : ℕ) → at < size_along axis h w → k < size_along (crossing axis) h w → ((place_on axis at k).0 < h) × ((place_on axis at k).1 < w)
place_on_line Across at h w k within along = (within, along)
place_on_line Down at h w k within along = (along, within)

place_on_position : (axis : Axis) (at i j : ℕ) → along_line axis i j ≡ at → place_on axis at (along_line (crossing axis) i j) ≡ (i, j)
place_on_position Across at i j e = ap (λ k. (k, j)) (sym e)
place_on_position Down at i j e = ap (λ k. (i, k)) (sym e)

position_within : (axis : Axis) (h w i j : ℕ) → i < h → j < w → along_line (crossing axis) i j < size_along (crossing axis) h w
position_within Across h w i j in_rows in_columns = in_columns
position_within Down h w i j in_rows in_columns = in_rows

cells_along_is : (axis : Axis) (h w : ℕ) (rows : Rows) → IsGrid h w rows → 0 < h → cells_along axis rows ≡ size_along (crossing axis) h w
cells_along_is Across h w rows is some = is.row_lengths 0 some
cells_along_is Down h w rows is some = is.row_count

-- the kept cells are the line's
pub cell_of_line : (axis : Axis) (at h w : ℕ) (rows : Rows) → IsGrid h w rows → 0 < h → at < size_along axis h w → (c : Cell) → Has (cells_of_line rows (line_at axis at)) c
    → (c.0 < h) × (c.1 < w) × (cell_at rows c.0 c.1 ≡ c.2)
cell_of_line axis at h w rows is some within = λ c has.
    let from = joined_from (λ k. cell_on rows (place_on axis at k) ∷ []) (cells_along axis rows) c has in
    let e : cell_on rows (place_on axis at from.0) ≡ c = elim from.2 [ inl same ↦ same | inr none ↦ absurd none ] in
    let inside = place_on_line axis at h w from.0 within (omega (arith, from.1, cells_along_is axis h w rows is some)) in
    subst (λ (d : Cell). (d.0 < h) × (d.1 < w) × (cell_at rows d.0 d.1 ≡ d.2)) e (inside.0, inside.1, refl)

-- a line deleted and one inserted at its place leave the size
pub line_back_is_grid : (axis : Axis) (at h w : ℕ) (rows : Rows) → IsGrid h w rows → at < size_along axis h w → 1 < size_along axis h w → IsGrid h w (with_line axis at (without_line axis at rows))
line_back_is_grid axis at h w rows is within more = rw (insert_delete axis at h w rows is within more) (blanked_is_grid axis at h w rows is within)

-- a deleted line given back
pub gives_line_back : (axis : Axis) (at h w : ℕ) (rows : Rows) → IsGrid h w rows → 0 < h → at < size_along axis h w → 1 < size_along axis h w
    → with_cells (with_line axis at (without_line axis at rows)) (cells_of_line rows (line_at axis at)) ≡ rows
gives_line_back axis at h w rows is some within more =
    rw (insert_delete axis at h w rows is within more)
    (with_cells_give h w (cells_of_line rows (line_at axis at)) (blanked axis at w rows) rows (blanked_is_grid axis at h w rows is within) is
    (cell_of_line axis at h w rows is some within)
    (λ i j in_rows in_columns.
    elim (cases_eq (along_line axis i j) at) [
      | inl on ↦
          let k = along_line (crossing axis) i j in
          let within_line : k < cells_along axis rows = omega (arith, cells_along_is axis h w rows is some, position_within axis h w i j in_rows in_columns) in
          inr (joined_has (λ k. cell_on rows (place_on axis at k) ∷ []) (cells_along axis rows) k (i, j, cell_at rows i j) within_line (inl (ap (cell_on rows) (place_on_position axis at i j on))))
      | inr off ↦ inl (blanked_off axis at h w rows i j is in_rows off)
    ]))

-- its givens given back
pub given_of_line : (axis : Axis) (at h w : ℕ) (marks : Marks) → IsGrid h w marks → 0 < h → at < size_along axis h w → (p : ℕ × ℕ) → Has (givens_of_line marks (line_at axis at)) p
    → (p.0 < h) × (p.1 < w) × (cell_at marks p.0 p.1 ≢ 0)
given_of_line axis at h w marks is some within = λ found has.
    let from = joined_from (λ k. given_on marks (place_on axis at k)) (cells_along axis marks) found has in
    let p = place_on axis at from.0 in
    let given = has_unless (cell_at marks p.0 p.1 == 0) p found from.2 in
    let inside = place_on_line axis at h w from.0 within (omega (arith, from.1, cells_along_is axis h w marks is some)) in
    subst (λ (q : ℕ × ℕ). (q.0 < h) × (q.1 < w) × (cell_at marks q.0 q.1 ≢ 0)) given.1 (inside.0, inside.1, eqb-false (cell_at marks p.0 p.1) 0 given.0)

pub gives_givens_back : (axis : Axis) (at h w : ℕ) (marks : Marks) → IsGrid h w marks → ((i j : ℕ) → cell_at marks i j < 2) → 0 < h → at < size_along axis h w → 1 < size_along axis h w
    → with_cells (with_line axis at (without_line axis at marks)) (map as_mark (givens_of_line marks (line_at axis at))) ≡ marks
gives_givens_back axis at h w marks is are some within more =
    rw (insert_delete axis at h w marks is within more)
    (with_cells_give h w (map as_mark (givens_of_line marks (line_at axis at))) (blanked axis at w marks) marks (blanked_is_grid axis at h w marks is within) is
    (λ c has.
    let of = has_from_map as_mark (givens_of_line marks (line_at axis at)) c has in
    let p = of.0 in
    let is_given = given_of_line axis at h w marks is some within p of.1 in
    let one : cell_at marks p.0 p.1 ≡ 1 = omega (arith, are p.0 p.1, is_given.2) in
    subst (λ (d : Cell). (d.0 < h) × (d.1 < w) × (cell_at marks d.0 d.1 ≡ d.2)) of.2 (is_given.0, is_given.1, one))
    (λ i j in_rows in_columns.
    elim (cases_eq (along_line axis i j) at) [
      | inl on ↦
          elim (cases_eq (cell_at marks i j) 0) [
            | inl none ↦ inl (blanked_on axis at h w marks i j is in_rows in_columns on ∙ sym none)
            | inr some_here ↦
                let k = along_line (crossing axis) i j in
                let within_line : k < cells_along axis marks = omega (arith, cells_along_is axis h w marks is some, position_within axis h w i j in_rows in_columns) in
                let place = place_on_position axis at i j on in
                let one : cell_at marks i j ≡ 1 = omega (arith, are i j, some_here) in
                let here : Has (given_on marks (i, j)) (i, j) = unless_has (cell_at marks i j == 0) (i, j) (ne_eqb (cell_at marks i j) 0 some_here) in
                let there : Has (given_on marks (place_on axis at k)) (i, j) = subst (λ (p : ℕ × ℕ). Has (given_on marks p) (i, j)) (sym place) here in
                inr (rw one
                (has_map as_mark (givens_of_line marks (line_at axis at)) (i, j) (joined_has (λ k. given_on marks (place_on axis at k)) (cells_along axis marks) k (i, j) within_line there)))
          ]
      | inr off ↦ inl (blanked_off axis at h w marks i j is in_rows off)
    ]))
