-- The rows of a picture in two colours, and the clues of its lines.
use Rattle.std.proofs.Common.{◌≡◌, ℕ, zero, suc, ◌+◌, ◌*◌, ◌<◌, ◌≤◌, Bool, true, not, eqb, leb, List, [], ◌∷◌, ◌++◌, length, get_or, take, drop, map, refl, ap, subst, ◌∙◌, arith, ◌&&◌}
use Rattle.std.specs.List.{flat_map, list_all, range_with_len}
use Rattle.std.proofs.lemmas.Bool.{leb-true, and_from, and_parts, cond_both}
use Rattle.std.proofs.lemmas.List.{length-append, length-map, map-append, get_or_past, take_at, drop_at}
use Rattle.std.proofs.lemmas.List.Folds.{list_all-append}
use Rattle.picture.proofs.SplitLaws.{lacks}
use Rattle.picture.specs.Rows.{rows_of, row_at, width_of, Rows}
use Rattle.clues.specs.Clue.{clue_of}
use Rattle.clues.specs.ClueBook.{columns_of}
use Rattle.non_text.specs.Goal.{is_cell_digit, cell_of}
use Rattle.non_text.specs.WrittenNon.{is_two_colour}
use Rattle.non_text.specs.Written.{digit_of}
use Rattle.non_text.proofs.ClueTexts.{IsTwoColour, IsWritable, writable}
use Rattle.non_text.proofs.WrittenLines.{AreWritable}

-- rows of `width` cells, in two colours
abbrev pub AreRows : ℕ → List (List ℕ) → Type 0
AreRows width [] = Unit {0}
AreRows width (row ∷ rows) = (length row ≡ width) × IsTwoColour row × AreRows width rows

two_colour_row : (row : List ℕ) → list_all (λ cell. leb cell 1) row ≡ true → IsTwoColour row
two_colour_row [] e = tt
two_colour_row (cell ∷ row) e =
    let parts = and_parts (leb cell 1) (list_all (λ cell. leb cell 1) row) e in
    (leb-true cell 1 parts.0, two_colour_row row parts.1)

pub are_rows : (width : ℕ) (rows : Rows) → ((i : ℕ) → i < length rows → length (row_at rows i) ≡ width) → is_two_colour rows ≡ true → AreRows width rows
are_rows width [] even e = tt
are_rows width (row ∷ rows) even e =
    let parts = and_parts (list_all (λ cell. leb cell 1) row) (is_two_colour rows) e in
    (even 0 (omega arith), two_colour_row row parts.0, are_rows width rows (λ i lt. even (suc i) (omega (arith, lt))) parts.1)

-- ---- digits

digit_by : (P : ℕ → Type 0) → P 48 → P 49 → (cell : ℕ) → P (digit_of cell)
digit_by P nought one cell = cond_both (eqb cell 0) 48 49 P (λ _. nought) (λ _. one)

row_digits : (p : ℕ → Bool) → ((cell : ℕ) → p (digit_of cell) ≡ true) → (row : List ℕ) → list_all p (map digit_of row) ≡ true
row_digits p each [] = refl
row_digits p each (cell ∷ row) = ap (λ t. t && list_all p (map digit_of row)) (each cell) ∙ row_digits p each row

-- what holds of both digits holds of all
all_digits : (p : ℕ → Bool) → ((cell : ℕ) → p (digit_of cell) ≡ true) → (rows : Rows) → list_all p (flat_map (map digit_of) rows) ≡ true
all_digits p each [] = refl
all_digits p each (row ∷ rows) =
    list_all-append p (map digit_of row) (flat_map (map digit_of) rows)
    ∙ and_from (list_all p (map digit_of row)) (list_all p (flat_map (map digit_of) rows)) (row_digits p each row) (all_digits p each rows)

pub cell_digits : (rows : Rows) → list_all is_cell_digit (flat_map (map digit_of) rows) ≡ true
cell_digits rows = all_digits is_cell_digit (digit_by (λ d. is_cell_digit d ≡ true) refl refl) rows

pub digits_printed : (rows : Rows) → list_all (λ b. leb 32 b) (flat_map (map digit_of) rows) ≡ true
digits_printed rows = all_digits (λ b. leb 32 b) (digit_by (λ d. leb 32 d ≡ true) refl refl) rows

pub no_quotes : (rows : Rows) → lacks 34 (flat_map (map digit_of) rows) ≡ true
no_quotes rows = all_digits (λ b. not (eqb b 34)) (digit_by (λ d. not (eqb d 34) ≡ true) refl refl) rows

pub length-digits : (width : ℕ) (rows : Rows) → AreRows width rows → length (flat_map (map digit_of) rows) ≡ length rows * width
length-digits width [] are = omega arith
length-digits width (row ∷ rows) are =
    let first = length-map row digit_of in
    let later = length-digits width rows are.2 in
    let both = length-append (map digit_of row) (flat_map (map digit_of) rows) in
    let even = are.0 in
    omega (arith, first, later, both, even)

cell_again : (cell : ℕ) → cell ≤ 1 → cell_of (digit_of cell) ≡ cell
cell_again zero low = refl
cell_again (suc zero) low = refl
cell_again (suc (suc cell)) low = absurd (omega (arith, low))

cells_again : (row : List ℕ) → IsTwoColour row → map cell_of (map digit_of row) ≡ row
cells_again [] two = refl
cells_again (cell ∷ row) two = ap (λ x. x ∷ map cell_of (map digit_of row)) (cell_again cell two.0) ∙ ap (λ (rest : List ℕ). cell ∷ rest) (cells_again row two.1)

-- the rows are cut from their digits again
pub rows_again : (width : ℕ) (rows : Rows) → AreRows width rows → rows_of (length rows) width (map cell_of (flat_map (map digit_of) rows)) ≡ rows
rows_again width [] are = refl
rows_again width (row ∷ rows) are =
    let later = map cell_of (flat_map (map digit_of) rows) in
    let cells : map cell_of (map digit_of row ++ flat_map (map digit_of) rows) ≡ row ++ later = map-append cell_of (map digit_of row) (flat_map (map digit_of) rows)
    ∙ ap (λ (first : List ℕ). first ++ later) (cells_again row are.1) in
    ap (λ (all : List ℕ). take width all ∷ rows_of (length rows) width (drop width all)) cells
    ∙ ap (λ (first : List ℕ). first ∷ rows_of (length rows) width (drop width (row ++ later))) (take_at row later width are.0)
    ∙ ap (λ (rest : List ℕ). row ∷ rows_of (length rows) width rest) (drop_at row later width are.0)
    ∙ ap (λ (rest : List (List ℕ)). row ∷ rest) (rows_again width rows are.2)

-- ---- lines

low_cell : (row : List ℕ) (j : ℕ) → IsTwoColour row → get_or row j 0 ≤ 1
low_cell [] j two = omega (arith, get_or_past {X = ℕ} [] j 0 (omega arith))
low_cell (cell ∷ row) zero two = two.0
low_cell (cell ∷ row) (suc j) two = low_cell row j two.1

column_two_colour : (width : ℕ) (rows : Rows) (j : ℕ) → AreRows width rows → IsTwoColour (map (λ (row : List ℕ). get_or row j 0) rows)
column_two_colour width [] j are = tt
column_two_colour width (row ∷ rows) j are = (low_cell row j are.1, column_two_colour width rows j are.2)

column_is : (width : ℕ) (rows : Rows) (j : ℕ) → AreRows width rows → IsWritable (length rows) (clue_of (map (λ (row : List ℕ). get_or row j 0) rows))
column_is width rows j are =
    let column = map (λ (row : List ℕ). get_or row j 0) rows in
    subst (λ n. IsWritable n (clue_of column)) (length-map rows (λ (row : List ℕ). get_or row j 0)) (writable column (column_two_colour width rows j are))

pub rows_writable : (width : ℕ) (rows : Rows) → AreRows width rows → AreWritable width (map clue_of rows)
rows_writable width [] are = tt
rows_writable width (row ∷ rows) are = (subst (λ n. IsWritable n (clue_of row)) are.0 (writable row are.1), rows_writable width rows are.2)

first_writable : (width a n : ℕ) (rows : Rows) → AreRows width rows
    → AreWritable (length rows) (map clue_of (map (λ j. map (λ (row : List ℕ). get_or row j 0) rows) (range_with_len a n)))
first_writable width a zero rows are = tt
first_writable width a (suc n) rows are = (column_is width rows a are, first_writable width (a + 1) n rows are)

pub columns_writable : (width : ℕ) (rows : Rows) → AreRows width rows → AreWritable (length rows) (map clue_of (columns_of rows))
columns_writable width rows are = first_writable width 0 (width_of rows) rows are
