-- Rows joined into one flat list, and what edits of rows do to the flat list.
use Rattle.std.proofs.Common.{◌≡◌, ℕ, zero, suc, ◌+◌, ◌*◌, ◌-◌, ◌<◌, ◌≤◌, List, [], ◌∷◌, ◌++◌, length, get_or, set, take, drop, map, replicate, arith, refl, ap, ◌∙◌, sym, subst, inl, inr}
use Rattle.std.specs.List.{All, concat, insert, remove, swap}
use Rattle.std.proofs.lemmas.Bool.{cases_lt}
use Rattle.std.proofs.lemmas.List.{append-nil, append_assoc, length-append, length-map, length-drop, length-set, length-replicate, length-take-le, take_at, drop_at, take_all, drop_all}
use Rattle.std.proofs.lemmas.List.{take-append-drop, drop_more, map_more, get_or_past, get_or-append-add, get_or_append_left, set-append_left, set-append_right, nil_from_length}
use Rattle.std.proofs.lemmas.List.Elements.{All-append, All-cons, All-drop, All-from_get_or, All-get_or, All-head, All-map, All-nil, All-replicate, All-set, All-tail, All-take, All-weaker}
use Rattle.std.proofs.lemmas.List.Folds.{concat-append}
use Rattle.std.proofs.lemmas.List.Edits.{swap_is, length-insert, length-remove, length-swap, remove-append_right, remove-append_left}
use Rattle.picture.specs.declared.picture.TheConstants.{MAX_SIDE}
use Rattle.picture.specs.Picture.{AreCells}
use Rattle.picture.specs.Rows.{rows_of, Rows}
use Rattle.picture.proofs.FlatLaws.{length-rows_of, row_at-rows_of}

-- ---- what holds of each element

module _ {X : Type 0} (P : X → Type 0) where
  every_insert : (xs : List X) (i : ℕ) (x : X) → P x → All P xs → All P (insert xs i x)
  every_insert xs i x is all = All-append P (take i xs) (x ∷ drop i xs) (All-take P i xs all) (All-cons P x (drop i xs) is (All-drop P i xs all))

  every_remove : (xs : List X) (i : ℕ) → All P xs → All P (remove xs i)
  every_remove xs i all = All-append P (take i xs) (drop (suc i) xs) (All-take P i xs all) (All-drop P (suc i) xs all)

  every_swap : (xs : List X) (i j : ℕ) → i < length xs → j < length xs → All P xs → All P (swap xs i j)
  every_swap [] i j in_i in_j all = all
  every_swap (x ∷ xs) i j in_i in_j all =
      rw (← swap_is (x ∷ xs) i j x in_i in_j)
      (All-set P (set (x ∷ xs) i (get_or (x ∷ xs) j x)) j (get_or (x ∷ xs) i x) (All-get_or P (x ∷ xs) i x in_i all)
      (All-set P (x ∷ xs) i (get_or (x ∷ xs) j x) (All-get_or P (x ∷ xs) j x in_j all) all))

pub every_map : {X Y : Type 0} (P : X → Type 0) (Q : Y → Type 0) (f : X → Y) → ((x : X) → P x → Q (f x)) → (xs : List X) → All P xs → All Q (map f xs)
every_map P Q f keeps xs all = All-map Q f xs (All-weaker P (λ x. Q (f x)) keeps xs all)

pub every_at_all : (limit : ℕ) (xs : List ℕ) → 0 < limit → All (λ x. x < limit) xs → (k : ℕ) → get_or xs k 0 < limit
every_at_all limit xs some all k = grind (arith, get_or_past, length)

-- ---- rows of one width, with cells below 16

-- a row of a picture of this width
pub record IsRow (width : ℕ) (row : List ℕ) : Type 0 where
  pub wide : length row ≡ width
  pub small : All (λ x. x < 16) row

pub record IsGrid (height width : ℕ) (rows : Rows) : Type 0 where
  pub tall : length rows ≡ height
  pub each : All (IsRow width) rows

length-concat : (width : ℕ) (rows : Rows) → All (IsRow width) rows → length (concat rows) ≡ length rows * width
length-concat width [] all = omega arith
length-concat width (row ∷ rows) all =
    let rest = length-concat width rows (All-tail (IsRow width) row rows all) in
    let wide = (All-head (IsRow width) row rows all).wide in
    omega (arith, rest, wide, length-append row (concat rows))

small-concat : (width : ℕ) (rows : Rows) → All (IsRow width) rows → All (λ x. x < 16) (concat rows)
small-concat width [] all = All-nil (λ x. x < 16)
small-concat width (row ∷ rows) all =
    All-append (λ x. x < 16) row (concat rows) (All-head (IsRow width) row rows all).small (small-concat width rows (All-tail (IsRow width) row rows all))

-- cutting and joining undo each other
pub concat-rows_of : (height width : ℕ) (cells : List ℕ) → length cells ≡ height * width → concat (rows_of height width cells) ≡ cells
concat-rows_of zero width cells count = let none : length cells ≡ 0 = omega arith in sym (nil_from_length cells none)
concat-rows_of (suc height) width cells count =
    let less = length-drop width cells in
    let rest : length (drop width cells) ≡ height * width = omega arith in
    ap (λ xs. take width cells ++ xs) (concat-rows_of height width (drop width cells) rest) ∙ take-append-drop width cells

rows_of-join : (width : ℕ) (rows : Rows) → All (IsRow width) rows → rows_of (length rows) width (concat rows) ≡ rows
rows_of-join width [] all = refl
rows_of-join width (row ∷ rows) all =
    let wide = (All-head (IsRow width) row rows all).wide in
    rw (take_at row (concat rows) width wide, drop_at row (concat rows) width wide) (ap (λ rest. row ∷ rest) (rows_of-join width rows (All-tail (IsRow width) row rows all)))

pub rows_of-concat : (height width : ℕ) (rows : Rows) → IsGrid height width rows → rows_of height width (concat rows) ≡ rows
rows_of-concat height width rows is = subst (λ h. rows_of h width (concat rows) ≡ rows) is.tall (rows_of-join width rows is.each)

each-rows_of : (height width : ℕ) (cells : List ℕ) → length cells ≡ height * width → All (λ x. x < 16) cells → All (IsRow width) (rows_of height width cells)
each-rows_of zero width cells count small = All-nil (IsRow width)
each-rows_of (suc height) width cells count small =
    let less = length-drop width cells in
    let rest : length (drop width cells) ≡ height * width = omega arith in
    let front : length (take width cells) + length (drop width cells) ≡ length cells = sym (length-append (take width cells) (drop width cells)) ∙ ap length (take-append-drop width cells) in
    let wide : length (take width cells) ≡ width = omega arith in
    All-cons (IsRow width) (take width cells) (rows_of height width (drop width cells)) (record { wide = wide; small = All-take (λ x. x < 16) width cells small })
    (each-rows_of height width (drop width cells) rest (All-drop (λ x. x < 16) width cells small))

pub grid_of : (height width : ℕ) (cells : List ℕ) → AreCells height width cells → IsGrid height width (rows_of height width cells)
grid_of height width cells is = record {
  tall = length-rows_of height width cells;
  each = each-rows_of height width cells is.count (All-from_get_or (λ x. x < 16) cells 0 (λ k _. is.colours k));
}

pub cells_of : (height width : ℕ) (rows : Rows) → 0 < height → height ≤ MAX_SIDE → 0 < width → width ≤ MAX_SIDE → IsGrid height width rows → AreCells height width (concat rows)
cells_of height width rows some_rows rows_fit some_columns columns_fit is = record {
  has_row = some_rows;
  rows_fit = rows_fit;
  has_column = some_columns;
  columns_fit = columns_fit;
  count = length-concat width rows is.each ∙ ap (λ h. h * width) is.tall;
  colours = every_at_all 16 (concat rows) (omega arith) (small-concat width rows is.each);
}

-- ---- edits of rows

blank_row : (width : ℕ) → IsRow width (replicate width 0)
blank_row width = record { wide = length-replicate width 0; small = All-replicate (λ x. x < 16) width 0 (omega arith) }

pub grid-row_inserted : (height width : ℕ) (rows : Rows) (i : ℕ) → IsGrid height width rows → i ≤ height → IsGrid (height + 1) width (insert rows i (replicate width 0))
grid-row_inserted height width rows i is place = record {
  tall = let n = length-insert rows i (replicate {A = ℕ} width 0) (omega (arith, is.tall, place)) in omega (arith, is.tall, n);
  each = every_insert (IsRow width) rows i (replicate width 0) (blank_row width) is.each;
}

pub grid-row_removed : (height width : ℕ) (rows : Rows) (i : ℕ) → IsGrid height width rows → i < height → IsGrid (height - 1) width (remove rows i)
grid-row_removed height width rows i is place = record {
  tall = let n = length-remove rows i (omega (arith, is.tall, place)) in omega (arith, is.tall, n);
  each = every_remove (IsRow width) rows i is.each;
}

pub grid-rows_swapped : (height width : ℕ) (rows : Rows) (i j : ℕ) → IsGrid height width rows → i < height → j < height → IsGrid height width (swap rows i j)
grid-rows_swapped height width rows i j is in_i in_j = record {
  tall = length-swap rows i j ∙ is.tall;
  each = every_swap (IsRow width) rows i j (omega (arith, is.tall, in_i)) (omega (arith, is.tall, in_j)) is.each;
}

-- an edit of each row
pub record EditsRows (width wide : ℕ) (f : List ℕ → List ℕ) : Type 0 where
  pub keeps : (row : List ℕ) → IsRow width row → IsRow wide (f row)

pub grid-mapped : (height width wide : ℕ) (f : List ℕ → List ℕ) (rows : Rows) → EditsRows width wide f → IsGrid height width rows → IsGrid height wide (map f rows)
grid-mapped height width wide f rows edits is = record {
  tall = length-map rows f ∙ is.tall;
  each = every_map (IsRow width) (IsRow wide) f edits.keeps rows is.each;
}

-- what an edit of columns does to each row
abbrev pub with_gap : ℕ → List ℕ → List ℕ
with_gap at row = insert row at 0

abbrev pub without_cell : ℕ → List ℕ → List ℕ
without_cell at row = remove row at

abbrev pub with_exchange : ℕ → ℕ → List ℕ → List ℕ
with_exchange i j row = swap row i j

pub inserts_cell : (width at : ℕ) → at ≤ width → EditsRows width (width + 1) (with_gap at)
inserts_cell width at place = record {
  keeps = λ row is. record {
    wide = let n = length-insert row at 0 (omega (arith, is.wide, place)) in omega (arith, n, is.wide);
    small = every_insert (λ x. x < 16) row at 0 (omega arith) is.small;
  };
}

pub removes_cell : (width at : ℕ) → at < width → EditsRows width (width - 1) (without_cell at)
removes_cell width at place = record {
  keeps = λ row is. record {
    wide = let n = length-remove row at (omega (arith, is.wide, place)) in omega (arith, n, is.wide);
    small = every_remove (λ x. x < 16) row at is.small;
  };
}

pub swaps_cells : (width i j : ℕ) → i < width → j < width → EditsRows width width (with_exchange i j)
swaps_cells width i j in_i in_j = record {
  keeps = λ row is. record {
    wide = length-swap row i j ∙ is.wide;
    small = every_swap (λ x. x < 16) row i j (omega (arith, is.wide, in_i)) (omega (arith, is.wide, in_j)) is.small;
  };
}

-- ---- the flat list while each row is edited in turn

-- the first n rows are edited and joined
unfoldable pub joined : (List ℕ → List ℕ) → ℕ → Rows → List ℕ
joined f n rows = concat (map f (take n rows))

-- the first n rows are edited, and the others are as before
unfoldable pub edited : (List ℕ → List ℕ) → ℕ → Rows → List ℕ
edited f n rows = joined f n rows ++ concat (drop n rows)

pub joined_none : (f : List ℕ → List ℕ) (rows : Rows) → joined f 0 rows ≡ []
unfolding joined
joined_none f rows = refl

joined_all : (f : List ℕ → List ℕ) (n : ℕ) (rows : Rows) → length rows ≡ n → joined f n rows ≡ concat (map f rows)
unfolding joined
joined_all f n rows all = ap (λ xs. concat (map f xs)) (take_all n rows (omega (arith, all)))

joined_more : (f : List ℕ → List ℕ) (n : ℕ) (rows : Rows) → n < length rows → joined f (n + 1) rows ≡ joined f n rows ++ f (get_or rows n [])
unfolding joined
joined_more f n rows lt =
    ap concat (map_more f rows n [] lt) ∙ concat-append (map f (take n rows)) (f (get_or rows n []) ∷ []) ∙ ap (λ xs. concat (map f (take n rows)) ++ xs) (append-nil (f (get_or rows n [])))

length-joined : (width wide : ℕ) (f : List ℕ → List ℕ) (n : ℕ) (rows : Rows) → EditsRows width wide f → All (IsRow width) rows → n ≤ length rows → length (joined f n rows) ≡ n * wide
unfolding joined
length-joined width wide f n rows edits all within =
    length-concat wide (map f (take n rows)) (every_map (IsRow width) (IsRow wide) f edits.keeps (take n rows) (All-take (IsRow width) n rows all))
    ∙ ap (λ k. k * wide) (length-map (take n rows) f ∙ length-take-le n rows within)

edited_none : (f : List ℕ → List ℕ) (rows : Rows) → edited f 0 rows ≡ concat rows
unfolding edited joined
edited_none f rows = refl

edited_all : (f : List ℕ → List ℕ) (n : ℕ) (rows : Rows) → length rows ≡ n → edited f n rows ≡ concat (map f rows)
unfolding edited
edited_all f n rows all = rw (joined_all f n rows all, drop_all n rows (omega (arith, all))) (append-nil (concat (map f rows)))

-- the row to be edited next, between the rows before and after it
edited_here : (f : List ℕ → List ℕ) (n : ℕ) (rows : Rows) → n < length rows → edited f n rows ≡ joined f n rows ++ (get_or rows n [] ++ concat (drop (n + 1) rows))
unfolding edited
edited_here f n rows lt = ap (λ xs. joined f n rows ++ concat xs) (drop_more rows n [] lt)

edited_more : (f : List ℕ → List ℕ) (n : ℕ) (rows : Rows) → n < length rows → edited f (n + 1) rows ≡ joined f n rows ++ (f (get_or rows n []) ++ concat (drop (n + 1) rows))
unfolding edited
edited_more f n rows lt = ap (λ xs. xs ++ concat (drop (n + 1) rows)) (joined_more f n rows lt) ∙ append_assoc (joined f n rows) (f (get_or rows n [])) (concat (drop (n + 1) rows))

-- ---- one pass of each loop

-- two cells exchanged in the middle of a list
swap-within : (front row rest : List ℕ) (n i j : ℕ) → length front ≡ n → i < length row → j < length row → swap (front ++ (row ++ rest)) (n + i) (n + j) ≡ front ++ (swap row i j ++ rest)
swap-within front row rest n i j long in_i in_j =
    let whole = front ++ (row ++ rest) in
    let sizes = length-append front (row ++ rest) in
    let sizes2 = length-append row rest in
    let at_i : n + i - n ≡ i = omega arith in
    let at_j : n + j - n ≡ j = omega arith in
    let x = get_or row i 0 in
    let y = get_or row j 0 in
    let written : set (set whole (n + i) y) (n + j) x ≡ front ++ (set (set row i y) j x ++ rest) =
    ap (λ xs. set xs (n + j) x)
    (set-append_right front (row ++ rest) n (n + i) y long (omega arith) ∙ ap (λ k. front ++ set (row ++ rest) k y) at_i ∙ ap (λ xs. front ++ xs) (set-append_left row rest i y in_i))
    ∙ set-append_right front (set row i y ++ rest) n (n + j) x long (omega arith)
    ∙ ap (λ k. front ++ set (set row i y ++ rest) k x) at_j
    ∙ ap (λ xs. front ++ xs) (set-append_left (set row i y) rest j x (omega (arith, length-set row i y, in_j))) in
    sym (swap_is whole (n + i) (n + j) 0 (omega arith) (omega arith))
    ∙ ap (λ z. set (set whole (n + i) z) (n + j) (get_or whole (n + i) 0)) (read_within front row rest n j long in_j)
    ∙ ap (λ z. set (set whole (n + i) y) (n + j) z) (read_within front row rest n i long in_i)
    ∙ written
    ∙ ap (λ xs. front ++ (xs ++ rest)) (swap_is row i j 0 in_i in_j)
  where
    read_within : (front row rest : List ℕ) (n i : ℕ) → length front ≡ n → i < length row → get_or (front ++ (row ++ rest)) (n + i) 0 ≡ get_or row i 0
    read_within front row rest n i long in_i =
        ap (λ k. get_or (front ++ (row ++ rest)) (k + i) 0) (sym long) ∙ get_or-append-add front (row ++ rest) i 0 ∙ get_or_append_left row rest 0 i in_i

module _ (height width : ℕ) (old : List ℕ) (is : AreCells height width old) where
  abbrev rows : List (List ℕ)
  rows = rows_of height width old

  all : All (IsRow width) rows
  all = (grid_of height width old is).each

  tall : length rows ≡ height
  tall = length-rows_of height width old

  pub none_edited : (f : List ℕ → List ℕ) → old ≡ edited f 0 (rows_of height width old)
  none_edited f = sym (edited_none f rows ∙ concat-rows_of height width old is.count)

  pub all_edited : (f : List ℕ → List ℕ) (n : ℕ) → n ≡ height → edited f n (rows_of height width old) ≡ concat (map f (rows_of height width old))
  all_edited f n last = edited_all f n rows (tall ∙ sym last)

  pub all_joined : (f : List ℕ → List ℕ) (n : ℕ) → n ≡ height → joined f n (rows_of height width old) ≡ concat (map f (rows_of height width old))
  all_joined f n last = joined_all f n rows (tall ∙ sym last)

  pub cell_removed : (at n : ℕ) (cells : List ℕ) → at < width → n < height → cells ≡ edited (without_cell at) n (rows_of height width old)
      → remove cells (n * (width - 1) + at) ≡ edited (without_cell at) (n + 1) (rows_of height width old)
  cell_removed at n cells place turn so_far =
      let f = without_cell at in
      let lt : n < length rows = omega (arith, tall, turn) in
      let row = get_or rows n [] in
      let wide : length row ≡ width = (All-get_or (IsRow width) rows n [] lt all).wide in
      let front = length-joined width (width - 1) f n rows (removes_cell width at place) all (omega arith) in
      let here : n * (width - 1) + at - n * (width - 1) ≡ at = omega arith in
      ap (λ xs. remove xs (n * (width - 1) + at)) (so_far ∙ edited_here f n rows lt)
      ∙ remove-append_right (joined f n rows) (row ++ concat (drop (n + 1) rows)) (n * (width - 1)) (n * (width - 1) + at) front (omega arith)
      ∙ ap (λ k. joined f n rows ++ remove (row ++ concat (drop (n + 1) rows)) k) here
      ∙ ap (λ xs. joined f n rows ++ xs) (remove-append_left row (concat (drop (n + 1) rows)) at (omega arith))
      ∙ sym (edited_more f n rows lt)

  pub place_of_removal : (at n : ℕ) (cells : List ℕ) → at < width → n < height → cells ≡ edited (without_cell at) n (rows_of height width old) → n * (width - 1) + at < length cells
  place_of_removal at n cells place turn so_far =
      let f = without_cell at in
      let lt : n < length rows = omega (arith, tall, turn) in
      let row = get_or rows n [] in
      let wide : length row ≡ width = (All-get_or (IsRow width) rows n [] lt all).wide in
      let front = length-joined width (width - 1) f n rows (removes_cell width at place) all (omega arith) in
      let long : length cells ≡ length (joined f n rows) + (length row + length (concat (drop (n + 1) rows))) =
      ap length (so_far ∙ edited_here f n rows lt) ∙ length-append (joined f n rows) (row ++ concat (drop (n + 1) rows))
      ∙ ap (λ k. length (joined f n rows) + k) (length-append row (concat (drop (n + 1) rows))) in
      omega arith

  pub gap_pushed : (at n : ℕ) (wider more : List ℕ) → n < height → wider ≡ joined (with_gap at) n (rows_of height width old)
      → more ≡ wider ++ insert (take ((n + 1) * width - n * width) (drop (n * width) old)) at 0
      → more ≡ joined (with_gap at) (n + 1) (rows_of height width old)
  gap_pushed at n wider more turn so_far pushed =
      let f = with_gap at in
      let one : (n + 1) * width - n * width ≡ width = omega arith in
      pushed
      ∙ ap (λ xs. xs ++ insert (take ((n + 1) * width - n * width) (drop (n * width) old)) at 0) so_far
      ∙ ap (λ k. joined f n rows ++ insert (take k (drop (n * width) old)) at 0) one
      ∙ ap (λ row. joined f n rows ++ insert row at 0) (sym (row_at-rows_of height width old n turn))
      ∙ sym (joined_more f n rows (omega (arith, tall, turn)))

  pub cells_exchanged : (i j n : ℕ) (cells : List ℕ) → i < width → j < width → n < height → cells ≡ edited (with_exchange i j) n (rows_of height width old)
      → swap cells (n * width + i) (n * width + j) ≡ edited (with_exchange i j) (n + 1) (rows_of height width old)
  cells_exchanged i j n cells in_i in_j turn so_far =
      let f = with_exchange i j in
      let lt : n < length rows = omega (arith, tall, turn) in
      let row = get_or rows n [] in
      let wide : length row ≡ width = (All-get_or (IsRow width) rows n [] lt all).wide in
      let front = length-joined width width f n rows (swaps_cells width i j in_i in_j) all (omega arith) in
      ap (λ xs. swap xs (n * width + i) (n * width + j)) (so_far ∙ edited_here f n rows lt)
      ∙ swap-within (joined f n rows) row (concat (drop (n + 1) rows)) (n * width) i j front (omega arith) (omega arith)
      ∙ sym (edited_more f n rows lt)
