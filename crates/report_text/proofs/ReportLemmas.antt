-- The lines of a report, one by one.
use Rattle.std.proofs.Common.{◌≡◌, ℕ, ◌+◌, ◌<◌, true, false, cond, List, [], ◌∷◌, ◌++◌, get_or, map, append-nil, refl, ap, ◌∙◌, arith, ◌==◌}
use Rattle.std.specs.List.{flat_map, range_with_len}
use Rattle.std.proofs.lemmas.Grind.{flat_map-append}
use Rattle.std.proofs.lemmas.List.{take_all}
use Rattle.std.proofs.lemmas.List.FromFn.{get_or-map-range_with_len}
use Rattle.std.proofs.lemmas.List.Sums.{count_by_more_no, count_by_more_yes, sum_by_more}
use Rattle.picture.specs.declared.rgb.Rgb.{Rgb}
use Rattle.picture.specs.Palette.{triple_at}
use Rattle.picture.specs.Rows.{cell_at, width_of}
use Rattle.clues.specs.ClueBook.{Clues}
use Rattle.line_facts.specs.Masks.{Masks}
use Rattle.edits.specs.Design.{Design, grid, mark_at, marks_of}
use Rattle.report_text.specs.Report.{audit_text, colour_line, colour_lines, document_text, shown_given, givens_in, palette_line, palette_lines, row_givens}
use Rattle.report_text.proofs.ShownLemmas.{next_range}

-- all that comes before the ending
abbrev pub front_text : Design → Clues → Masks → List ℕ
front_text d clues facts = document_text d ++ audit_text clues facts

flat_more : (f : ℕ → List ℕ) (k : ℕ) → flat_map f (range_with_len 0 (k + 1)) ≡ flat_map f (range_with_len 0 k) ++ f k
flat_more f k = ap (flat_map f) (next_range k) ∙ flat_map-append f (range_with_len 0 k) (k ∷ []) ∙ ap (λ (rest : List ℕ). flat_map f (range_with_len 0 k) ++ rest) (append-nil (f k))

pub colours_none : (triples : List Rgb) → colour_lines triples 0 ≡ []
unfolding colour_lines
colours_none triples = refl

pub colours_more : (triples : List Rgb) (k : ℕ) → colour_lines triples (k + 1) ≡ colour_lines triples k ++ colour_line k (triple_at triples k)
unfolding colour_lines
colours_more triples k = flat_more (λ n. colour_line n (triple_at triples n)) k

pub palette_none : (triples : List Rgb) → palette_lines triples 0 ≡ []
unfolding palette_lines
palette_none triples = refl

pub palette_more : (triples : List Rgb) (k : ℕ) → palette_lines triples (k + 1) ≡ palette_lines triples k ++ palette_line k (triple_at triples k)
unfolding palette_lines
palette_more triples k = flat_more (λ n. palette_line n (triple_at triples n)) k

pub givens_none : (d : Design) → givens_in d 0 ≡ []
unfolding givens_in
givens_none d = refl

pub givens_more : (d : Design) (i : ℕ) → givens_in d (i + 1) ≡ givens_in d i ++ row_givens d i (width_of d.rows)
unfolding givens_in
givens_more d i = flat_more (λ n. row_givens d n (width_of d.rows)) i

pub row_none : (d : Design) (i : ℕ) → row_givens d i 0 ≡ []
unfolding row_givens
row_none d i = refl

pub row_more : (d : Design) (i j : ℕ) → (cell_at d.marks i j == 1) ≡ true → row_givens d i (j + 1) ≡ row_givens d i j ++ shown_given i j
unfolding row_givens
row_more d i j is = flat_more (λ n. cond (cell_at d.marks i n == 1) (shown_given i n) []) j ∙ ap (λ t. row_givens d i j ++ cond t (shown_given i j) []) is

pub row_same : (d : Design) (i j : ℕ) → (cell_at d.marks i j == 1) ≡ false → row_givens d i (j + 1) ≡ row_givens d i j
unfolding row_givens
row_same d i j is = flat_more (λ n. cond (cell_at d.marks i n == 1) (shown_given i n) []) j ∙ ap (λ t. row_givens d i j ++ cond t (shown_given i j) []) is ∙ append-nil (row_givens d i j)

-- ---- marks

-- the mark of a cell is that of the set
pub marked : (height width : ℕ) (givens : List ℕ) (i j : ℕ) → i < height → j < width → cell_at (marks_of height width givens) i j ≡ mark_at givens i j
unfolding grid
marked height width givens i j rows columns =
    let row = get_or-map-range_with_len (λ n. map (λ m. mark_at givens n m) (range_with_len 0 width)) 0 height i i [] rows (omega arith) in
    ap (λ (line : List ℕ). get_or line j 0) row ∙ get_or-map-range_with_len (λ m. mark_at givens i m) 0 width j j 0 columns (omega arith)

pub ruleset marks = (marked)

-- ---- sums

pub ruleset sums = (count_by_more_no, count_by_more_yes, sum_by_more, take_all)
