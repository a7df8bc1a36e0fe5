-- The report of a bench.
use Rattle.std.specs.Prelude.{ℕ, ◌+◌, List, [], ◌∷◌, ◌++◌, length, codes, count_ones, count_by, nat_lt}
use Rattle.std.specs.Prelude.{◌==◌, if◌then◌else◌}
use Rattle.std.specs.List.{flat_map, range_with_len, sum_by}
use Rattle.line_facts.specs.Masks.{Masks}
use Rattle.picture.specs.declared.rgb.Rgb.{Rgb}
use Rattle.picture.specs.Palette.{Colours, triple_at}
use Rattle.picture.specs.Rows.{cell_at, width_of}
use Rattle.picture.specs.Writers.{number_text}
use Rattle.clues.specs.ClueBook.{Clues}
use Rattle.edits.specs.Design.{Design}
use Rattle.report_text.specs.ClueText.{clues_text}
use Rattle.report_text.specs.Shown.{letter, map_text, picture_text}

-- a colour's letter and its triple
abbrev pub colour_line : ℕ → Rgb → List ℕ
colour_line k t = letter k ∷ 32 ∷ (number_text t.r 32 ++ (number_text t.g 32 ++ number_text t.b 10))

-- a line for each of the first n colours
unfoldable pub colour_lines : List Rgb → ℕ → List ℕ
colour_lines triples n = flat_map (λ k. colour_line k (triple_at triples k)) (range_with_len 0 n)

-- the word `colour`, a colour's letter and its triple
abbrev pub palette_line : ℕ → Rgb → List ℕ
palette_line k t = codes "colour " ++ colour_line k t

-- such a line for each of the first n colours
unfoldable pub palette_lines : List Rgb → ℕ → List ℕ
palette_lines triples n = flat_map (λ k. palette_line k (triple_at triples k)) (range_with_len 0 n)

-- which colour each letter is: a line for each colour, the background first
abbrev pub palette_text : Colours → List ℕ
palette_text c = palette_lines c.triples (length c.triples)

-- how many colours there are, the largest sample, and a line for each colour
abbrev pub colours_text : Colours → List ℕ
colours_text c = codes "colours " ++ (number_text (length c.triples) 32
    ++ (codes "maxval " ++ (number_text c.maxval 10 ++ colour_lines c.triples (length c.triples))))

-- a line for a given, by its row and its column from 1
abbrev pub shown_given : ℕ → ℕ → List ℕ
shown_given i j = codes "given " ++ (number_text (i + 1) 32 ++ number_text (j + 1) 10)

-- the givens among the first n cells of a row, and in the first n rows
unfoldable pub row_givens : Design → ℕ → ℕ → List ℕ
row_givens d i n = flat_map (λ j. if cell_at d.marks i j == 1 then shown_given i j else []) (range_with_len 0 n)

unfoldable pub givens_in : Design → ℕ → List ℕ
givens_in d n = flat_map (λ i. row_givens d i (width_of d.rows)) (range_with_len 0 n)

-- how many cells are open: those with more than one colour left
abbrev pub open_cells : Masks → ℕ
open_cells facts = sum_by (count_by (λ mask. nat_lt 1 (count_ones mask))) facts

-- the document: its size, its colours, its picture and its givens
abbrev pub document_text : Design → List ℕ
document_text d = (codes "size " ++ (number_text (length d.rows) 32 ++ number_text (width_of d.rows) 10))
    ++ (colours_text d.colours ++ (codes "picture\n" ++ (picture_text d.rows ++ givens_in d (length d.rows))))

-- what follows from it: the clues, the map, and how many cells are open
abbrev pub audit_text : Clues → Masks → List ℕ
audit_text clues facts = codes "clues\n"
    ++ (clues_text clues ++ (codes "map\n" ++ (map_text facts ++ (codes "open " ++ number_text (open_cells facts) 10))))

-- the verdict's word, and how many edits can be undone and redone
abbrev pub ending_text : List ℕ → ℕ → ℕ → List ℕ
ending_text word past future =
    codes "verdict " ++ (word ++ (codes "\nhistory " ++ (number_text past 32 ++ number_text future 10)))

-- the whole report
abbrev pub report_text : Design → Clues → Masks → List ℕ → ℕ → ℕ → List ℕ
report_text d clues facts word past future = (document_text d ++ audit_text clues facts) ++ ending_text word past future
