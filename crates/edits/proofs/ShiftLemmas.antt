-- Grids whose lines have moved: each cell comes from its old place.
use Rattle.std.proofs.Common.{◌≡◌, ℕ, zero, suc, ◌+◌, ◌<◌, ◌≤◌, inl, inr, eqb, Option, Some, None, option_map, List, [], length, get_or, map, replicate, refl, sym, ap, ◌∙◌, arith, bit_and, ◌^◌}
use Rattle.std.proofs.lemmas.Bool.{cases_lt, cases_eq}
use Rattle.std.proofs.lemmas.Bool.Decides.{nat_tests}
use Rattle.std.proofs.lemmas.List.{length-map, length-replicate, get_or-map, get_or_past}
use Rattle.picture.specs.declared.line_id.Axis.{Axis}
use Rattle.picture.specs.declared.line_id.Axis.TheVariants.{Across, Down}
use Rattle.picture.specs.Picture.{IsPicture}
use Rattle.picture.specs.Rows.{cell_at, width_of, lines_along, with_line, without_line, lines_swapped, Rows}
use Rattle.clues.specs.declared.places.Places.{Places}
use Rattle.clues.specs.declared.places.Places.TheVariants.{Kept, Inserted, Deleted, Swapped}
use Rattle.clues.specs.Places.{AreAmong, IsNewAt, count_after, new_place, old_place, reversed}
use Rattle.clues.specs.Change.{HasSize, Moves, line_at, moved_along}
use Rattle.clues.proofs.EditedPictures.{edited, edited_picture, edited-sizes, get_or-edited, get_or-edited_new, length-edited, new_or_old, origin}
use Rattle.clues.proofs.MovedLines.{old_place-new_place}
use Rattle.clues.proofs.TouchedLines.{old_place-among}
use Rattle.edits.specs.Design.{IsGrid, mark_at, marks_of}
use Rattle.edits.specs.Note.{cells_along}
use Rattle.edits.specs.MovedGivens.{AreMoved, mark_before, mark_where}
use Rattle.edits.proofs.GridLemmas.{grid_is_grid, grid_same, cell_at-grid, cell_at-past_rows}
use Rattle.edits.proofs.DesignLemmas.{mark_has, mark_none, mark_small}

-- what an edit of lines does to a picture
pub inserted_is : (axis : Axis) (at : ℕ) (rows : Rows) → with_line axis at rows ≡ edited_picture axis (Inserted at) rows
inserted_is Across at rows = refl
inserted_is Down at rows = refl

pub deleted_is : (axis : Axis) (at : ℕ) (rows : Rows) → without_line axis at rows ≡ edited_picture axis (Deleted at) rows
deleted_is Across at rows = refl
deleted_is Down at rows = refl

pub swapped_is : (axis : Axis) (first second : ℕ) (rows : Rows) → lines_swapped axis first second rows ≡ edited_picture axis (Swapped first second) rows
swapped_is Across first second rows = refl
swapped_is Down first second rows = refl

-- the item at an old place, or another one where there was none
abbrev item_from : {X : Type 0} → List X → X → X → Option ℕ → X
item_from xs y d None = y
item_from xs y d (Some p) = get_or xs p d

no_old_place : (places : Places) (k : ℕ) → IsNewAt places k → old_place places k ≡ None
no_old_place Kept k n = absurd n
no_old_place (Inserted place) k n = grind (arith, nat_tests)
no_old_place (Deleted place) k n = absurd n
no_old_place (Swapped first second) k n = absurd n

edited_item : {X : Type 0} (places : Places) (y d : X) (xs : List X) (k : ℕ) → AreAmong places (length xs) → k < count_after places (length xs)
    → get_or (edited places y xs) k d ≡ item_from xs y d (old_place places k)
edited_item places y d xs k among within =
    elim (new_or_old places k) [
      | inl n ↦ get_or-edited_new places y d xs k among n ∙ sym (ap (item_from xs y d) (no_old_place places k n))
      | inr old ↦
          let from = origin places (length xs) k among within old in
          get_or-edited places y d xs from.0 k among from.1 from.2 ∙ sym (ap (item_from xs y d) (old_place-new_place places from.0 k from.2))
    ]

replicate_zero : (n k : ℕ) → get_or {A = ℕ} (replicate n 0) k 0 ≡ 0
replicate_zero zero k = refl
replicate_zero (suc n) zero = refl
replicate_zero (suc n) (suc k) = replicate_zero n k

-- a mark in a moved row, or at a moved place of a row
row_mark : (givens : List ℕ) (h w : ℕ) (y : List ℕ) (p : Option ℕ) (j : ℕ) → get_or y j 0 ≡ 0 → ((q : ℕ) → p ≡ Some q → q < h) → j < w
    → get_or (item_from (marks_of h w givens) y [] p) j 0 ≡ mark_where givens (option_map (line_at Across) p) (Some (line_at Down j))
row_mark givens h w y None j blank inside in_columns = blank
row_mark givens h w y (Some q) j blank inside in_columns = cell_at-grid h w (mark_at givens) q j (inside q refl) in_columns

place_mark : (givens : List ℕ) (h w i : ℕ) (p : Option ℕ) → i < h → ((q : ℕ) → p ≡ Some q → q < w)
    → item_from (get_or (marks_of h w givens) i []) 0 0 p ≡ mark_where givens (Some (line_at Across i)) (option_map (line_at Down) p)
place_mark givens h w i None in_rows inside = refl
place_mark givens h w i (Some q) in_rows inside = cell_at-grid h w (mark_at givens) i q in_rows (inside q refl)

row_length : (h w : ℕ) (rows : Rows) (y : List ℕ) (p : Option ℕ) → IsGrid h w rows → length y ≡ w → ((q : ℕ) → p ≡ Some q → q < h) → length (item_from rows y [] p) ≡ w
row_length h w rows y None is wide inside = wide
row_length h w rows y (Some q) is wide inside = is.row_lengths q (inside q refl)

-- a set of givens that has moved has the marks that it is to have
mark_where_small : (givens : List ℕ) (row column : Option ℕ) → mark_where givens (option_map (line_at Across) row) (option_map (line_at Down) column) < 2
mark_where_small givens None None = omega arith
mark_where_small givens None (Some j) = omega arith
mark_where_small givens (Some i) None = omega arith
mark_where_small givens (Some i) (Some j) = mark_small (eqb (bit_and (get_or givens i 0) (2 ^ j)) 0)

moved_marks : (old new : List ℕ) (back : Moves) (h w : ℕ) (target : Rows) → AreMoved old new back h w → IsGrid h w target → ((i j : ℕ) → i < h → j < w → cell_at target i j ≡ mark_before old back i j)
    → marks_of h w new ≡ target
moved_marks old new back h w target moved is same =
    grid_same h w (mark_at new) target is
    (λ i j in_rows in_columns.
    elim (cases_eq (mark_before old back i j) 1) [
      | inl one ↦ mark_has new i j (moved.1 i j in_rows in_columns one) ∙ (sym one ∙ sym (same i j in_rows in_columns))
      | inr other ↦
          let none : mark_before old back i j ≡ 0 = omega (arith, other, mark_where_small old (new_place back.rows i) (new_place back.columns j)) in
          mark_none new i j (λ has. other (moved.0 i j has).2) ∙ (sym none ∙ sym (same i j in_rows in_columns))
    ])

-- rows that have moved, and columns
marks_across : (places : Places) (h w h' w' hb wb : ℕ) (givens new : List ℕ) → 0 < h → AreAmong places h → h' ≡ count_after places h → w' ≡ w
    → AreMoved givens new (moved_along Across (reversed places) hb wb) h' w' → marks_of h' w' new ≡ edited_picture Across places (marks_of h w givens)
marks_across places h w h' w' hb wb givens new some among high wide moved =
    let m = marks_of h w givens in
    let is = grid_is_grid h w (mark_at givens) in
    let y : List ℕ = replicate (width_of m) 0 in
    let among_rows : AreAmong places (length m) = rw is.row_count among in
    let count : length (edited places y m) ≡ h' = length-edited places y m among_rows ∙ (ap (count_after places) is.row_count ∙ sym high) in
    let row : (i : ℕ) → i < h' → get_or (edited places y m) i [] ≡ item_from m y [] (old_place places i) = λ i in_rows. edited_item places y [] m i among_rows (rw (is.row_count, ← high) in_rows) in
    let inside : (i q : ℕ) → i < h' → old_place places i ≡ Some q → q < h = λ i q in_rows e. old_place-among places h i q among (rw (← high) in_rows) e in
    moved_marks givens new (moved_along Across (reversed places) hb wb) h' w' (edited places y m) moved
    (record {
      row_count = count;
      row_lengths =
          λ i in_rows. ap length (row i in_rows) ∙ (row_length h w m y (old_place places i) is (length-replicate (width_of m) 0 ∙ is.row_lengths 0 some) (λ q. inside i q in_rows) ∙ sym wide);
    })
    (λ i j in_rows in_columns.
    ap (λ r. get_or r j 0) (row i in_rows) ∙ row_mark givens h w y (old_place places i) j (replicate_zero (width_of m) j) (λ q. inside i q in_rows) (omega (arith, wide)))

marks_down : (places : Places) (h w h' w' hb wb : ℕ) (givens new : List ℕ) → AreAmong places w → h' ≡ h → w' ≡ count_after places w
    → AreMoved givens new (moved_along Down (reversed places) hb wb) h' w' → marks_of h' w' new ≡ edited_picture Down places (marks_of h w givens)
marks_down places h w h' w' hb wb givens new among high wide moved =
    let m = marks_of h w givens in
    let is = grid_is_grid h w (mark_at givens) in
    let f : List ℕ → List ℕ = edited places 0 in
    let in_grid : (i : ℕ) → i < h' → i < h = λ i in_rows. omega (arith, high) in
    let row : (i : ℕ) → i < h' → get_or (map f m) i [] ≡ f (get_or m i []) = λ i in_rows. get_or-map f m i [] [] (omega (arith, is.row_count, high)) in
    let among_row : (i : ℕ) → i < h' → AreAmong places (length (get_or m i [])) = λ i in_rows. rw (is.row_lengths i (in_grid i in_rows)) among in
    moved_marks givens new (moved_along Down (reversed places) hb wb) h' w' (map f m) moved
    (record {
      row_count = length-map m f ∙ (is.row_count ∙ sym high);
      row_lengths =
          λ i in_rows. ap length (row i in_rows) ∙ (length-edited places 0 (get_or m i []) (among_row i in_rows) ∙ (ap (count_after places) (is.row_lengths i (in_grid i in_rows)) ∙ sym wide));
    })
    (λ i j in_rows in_columns.
    ap (λ r. get_or r j 0) (row i in_rows)
    ∙ (edited_item places 0 0 (get_or m i []) j (among_row i in_rows) (rw (is.row_lengths i (in_grid i in_rows), ← wide) in_columns)
    ∙ place_mark givens h w i (old_place places j) (in_grid i in_rows) (λ q e. old_place-among places w j q among (rw (← wide) in_columns) e)))

-- the sizes of pictures whose lines have moved
has_size : (rows : Rows) → IsPicture rows → HasSize (length rows) (width_of rows) rows
has_size rows is = record { is_picture = is; row_count = refl; column_count = refl }

pub moved_sizes : (axis : Axis) (places : Places) (rows : Rows) → IsPicture rows → AreAmong places (lines_along axis rows) → 0 < count_after places (lines_along axis rows)
    → (lines_along axis (edited_picture axis places rows) ≡ count_after places (lines_along axis rows)) × (cells_along axis (edited_picture axis places rows) ≡ cells_along axis rows)
moved_sizes Across places rows is among some =
    let sizes = edited-sizes Across places (length rows) (width_of rows) rows (has_size rows is) among some in
    (sizes Across, sizes Down)
moved_sizes Down places rows is among some =
    let sizes = edited-sizes Down places (length rows) (width_of rows) rows (has_size rows is) among some in
    (sizes Down, sizes Across)

pub inserted_sizes : (axis : Axis) (at : ℕ) (rows : Rows) → IsPicture rows → at ≤ lines_along axis rows
    → (lines_along axis (with_line axis at rows) ≡ lines_along axis rows + 1) × (cells_along axis (with_line axis at rows) ≡ cells_along axis rows)
inserted_sizes axis at rows is le = rw (inserted_is axis at rows) (moved_sizes axis (Inserted at) rows is le (omega arith))

pub deleted_sizes : (axis : Axis) (at : ℕ) (rows : Rows) → IsPicture rows → at < lines_along axis rows → 1 < lines_along axis rows
    → (lines_along axis (without_line axis at rows) + 1 ≡ lines_along axis rows) × (cells_along axis (without_line axis at rows) ≡ cells_along axis rows)
deleted_sizes axis at rows is lt more =
    let sizes = moved_sizes axis (Deleted at) rows is lt (omega arith) in
    rw (deleted_is axis at rows) (omega (arith, sizes.0), sizes.1)

pub swapped_sizes : (axis : Axis) (first second : ℕ) (rows : Rows) → IsPicture rows → first < lines_along axis rows → second < lines_along axis rows
    → (lines_along axis (lines_swapped axis first second rows) ≡ lines_along axis rows) × (cells_along axis (lines_swapped axis first second rows) ≡ cells_along axis rows)
swapped_sizes axis first second rows is f s = rw (swapped_is axis first second rows) (moved_sizes axis (Swapped first second) rows is (f, s) (omega arith))

-- marks of givens that have moved with the lines of a picture
pub edited_marks : (axis : Axis) (places : Places) (hb wb : ℕ) (rows : Rows) (givens new : List ℕ) → IsPicture rows → AreAmong places (lines_along axis rows) → 0 < count_after places
    (lines_along axis rows) → AreMoved givens new (moved_along axis (reversed places) hb wb) (length (edited_picture axis places rows)) (width_of (edited_picture axis places rows))
    → marks_of (length (edited_picture axis places rows)) (width_of (edited_picture axis places rows)) new ≡ edited_picture axis places (marks_of (length rows) (width_of rows) givens)
edited_marks Across places hb wb rows givens new is among some moved =
    let sizes = moved_sizes Across places rows is among some in
    marks_across places (length rows) (width_of rows) _ _ hb wb givens new is.has_row among sizes.0 sizes.1 moved
edited_marks Down places hb wb rows givens new is among some moved =
    let sizes = moved_sizes Down places rows is among some in
    marks_down places (length rows) (width_of rows) _ _ hb wb givens new among sizes.1 sizes.0 moved

-- cells of pictures whose lines have moved stay below a bound
item_below : (rows : Rows) (y : List ℕ) (n j : ℕ) (p : Option ℕ) → ((i j : ℕ) → cell_at rows i j < n) → get_or y j 0 < n → get_or (item_from rows y [] p) j 0 < n
item_below rows y n j None below blank = blank
item_below rows y n j (Some q) below blank = below q j

place_below : (rows : Rows) (i n : ℕ) (p : Option ℕ) → ((i j : ℕ) → cell_at rows i j < n) → 0 < n → item_from (get_or rows i []) 0 0 p < n
place_below rows i n None below some = some
place_below rows i n (Some q) below some = below i q

pub edited_below : (axis : Axis) (places : Places) (n : ℕ) (rows : Rows) → IsPicture rows → AreAmong places (lines_along axis rows) → 0 < n → ((i j : ℕ) → cell_at rows i j < n) → (i j : ℕ)
    → cell_at (edited_picture axis places rows) i j < n
edited_below Across places n rows is among some below i j =
    let y : List ℕ = replicate (width_of rows) 0 in
    elim (cases_lt i (length (edited places y rows))) [
      | inl within ↦
          rw (edited_item places y [] rows i among (rw (← length-edited places y rows among) within)) (item_below rows y n j (old_place places i) below (rw (replicate_zero (width_of rows) j) some))
      | inr past ↦ rw (cell_at-past_rows (edited places y rows) i j past) some
    ]
edited_below Down places n rows is among some below i j =
    let f : List ℕ → List ℕ = edited places 0 in
    let row : List ℕ = get_or rows i [] in
    elim (cases_lt i (length rows)) [
      | inl in_rows ↦
          let among_row : AreAmong places (length row) = rw (is.rectangular i in_rows) among in
          rw (get_or-map f rows i [] [] in_rows)
          (elim (cases_lt j (length (f row))) [
            | inl within ↦ rw (edited_item places 0 0 row j among_row (rw (← length-edited places 0 row among_row) within)) (place_below rows i n (old_place places j) below some)
            | inr past ↦ rw (get_or_past (f row) j 0 past) some
          ])
      | inr past ↦ rw (cell_at-past_rows (map f rows) i j (omega (arith, length-map rows f))) some
    ]
