-- Other pictures of a picture whose colours are renumbered.
use Rattle.std.proofs.Common.{◌≡◌, ℕ, zero, suc, ◌<◌, List, [], ◌∷◌, length, map, slice_index, slice_index_or, refl, sym, ap, subst, ◌∙◌, arith, inl, inr}
use Rattle.std.proofs.Math.ListN.{get_or-map}
use Rattle.std.proofs.lemmas.List.{get_or_past, length-map}
use Rattle.std.proofs.lemmas.Bool.{cases_lt}
use Rattle.picture.specs.declared.line_id.Axis.{Axis}
use Rattle.picture.specs.declared.line_id.Axis.TheVariants.{Across, Down}
use Rattle.picture.specs.declared.line_id.LineId.{LineId}
use Rattle.picture.specs.Picture.{IsPicture}
use Rattle.picture.specs.Rows.{HasLine, cell_at, line_along, line_of, lines_along, row_at, Rows}
use Rattle.clues.specs.Clue.{clue_of}
use Rattle.clues.specs.ClueBook.{clue_at, clues_along, clues_of}
use Rattle.clues.specs.Laws.{BooksAreTheirClues, CluesAreOfLines}
use Rattle.line_facts.specs.FactSets.{SameShape}
use Rattle.line_facts.proofs.SolutionLaws.{solved_shape}
use Rattle.edits.specs.Design.{Design}
use Rattle.live_audit.specs.Laws.{OthersAreColoured}
use Rattle.live_audit.specs.Verdict.{IsOtherFor}
use Rattle.live_audit.proofs.ColourLemmas.{ComesBack, EachBlockIs, EachIs, blocks_are, cells_are, clue_recoloured, recoloured}

-- ---- grids with each colour renumbered

abbrev pub moved : (ℕ → ℕ) → Rows → List (List ℕ)
moved there rows = map (map there) rows

row_moved : (there : ℕ → ℕ) (rows : Rows) (i : ℕ) → row_at (moved there rows) i ≡ map there (row_at rows i)
row_moved there rows i = get_or-map (map there) rows i []

place_moved : (there : ℕ → ℕ) → there 0 ≡ 0 → (row : List ℕ) (j : ℕ) → slice_index (map there row) j ≡ there (slice_index row j)
place_moved there t row j = subst (λ (z : ℕ). slice_index_or (map there row) j z ≡ there (slice_index row j)) t (get_or-map there row j 0)

pub cell_moved : (there : ℕ → ℕ) → there 0 ≡ 0 → (rows : Rows) (i j : ℕ) → cell_at (moved there rows) i j ≡ there (cell_at rows i j)
cell_moved there t rows i j = ap (λ (row : List ℕ). slice_index row j) (row_moved there rows i) ∙ place_moved there t (row_at rows i) j

column_moved : (there : ℕ → ℕ) → there 0 ≡ 0 → (rows : Rows) (j : ℕ) → line_along Down j (moved there rows) ≡ map there (line_along Down j rows)
column_moved there t [] j = refl
column_moved there t (row ∷ rows) j =
    ap (λ (x : ℕ). x ∷ line_along Down j (moved there rows)) (place_moved there t row j) ∙ ap (λ (xs : List ℕ). there (slice_index row j) ∷ xs) (column_moved there t rows j)

line_moved : (there : ℕ → ℕ) → there 0 ≡ 0 → (rows : Rows) (axis : Axis) (at : ℕ) → line_along axis at (moved there rows) ≡ map there (line_along axis at rows)
line_moved there t rows Across at = row_moved there rows at
line_moved there t rows Down at = column_moved there t rows at

row_length : (there : ℕ → ℕ) (rows : Rows) (i : ℕ) → length (row_at (moved there rows) i) ≡ length (row_at rows i)
row_length there rows i = ap (λ (row : List ℕ). length row) (row_moved there rows i) ∙ length-map (row_at rows i) there

lines_moved : (there : ℕ → ℕ) (rows : Rows) (axis : Axis) → lines_along axis (moved there rows) ≡ lines_along axis rows
lines_moved there rows Across = length-map rows (map there)
lines_moved there rows Down = row_length there rows 0

pub shape_moved : (there : ℕ → ℕ) (one : List (List ℕ)) (other : Rows) → SameShape one other → SameShape (moved there one) (moved there other)
shape_moved there one other s = record {
  rows = length-map one (map there) ∙ (s.rows ∙ sym (length-map other (map there)));
  each = λ i. row_length there one i ∙ (s.each i ∙ sym (row_length there other i));
}

pub picture_moved : (there : ℕ → ℕ) → there 0 ≡ 0 → (rows : Rows) → IsPicture rows → ((i j : ℕ) → there (cell_at rows i j) < 16) → IsPicture (moved there rows)
picture_moved there t rows is small =
    let height = length-map rows (map there) in
    let width = row_length there rows 0 in
    record {
      has_row = omega (arith, is.has_row);
      rows_fit = omega (arith, is.rows_fit);
      has_column = omega (arith, is.has_column);
      columns_fit = omega (arith, is.columns_fit);
      rectangular = λ i l. row_length there rows i ∙ (is.rectangular i (omega arith) ∙ sym width);
      colours = λ i j. let s = small i j in subst (λ n. n < 16) (sym (cell_moved there t rows i j)) s;
    }

-- ---- what holds of each cell holds of each cell of a line, and the other way round

each_of : (P : ℕ → Type 0) (cells : List ℕ) → ((j : ℕ) → P (slice_index cells j)) → EachIs P cells
each_of P [] h = tt
each_of P (x ∷ cells) h = (h 0, each_of P cells (λ j. h (suc j)))

at_each : (P : ℕ → Type 0) → P 0 → (cells : List ℕ) → EachIs P cells → (j : ℕ) → P (slice_index cells j)
at_each P z [] h j = z
at_each P z (x ∷ cells) h zero = h.0
at_each P z (x ∷ cells) h (suc j) = at_each P z cells h.1 j

column_of : (P : ℕ → Type 0) (rows : Rows) (j : ℕ) → ((i : ℕ) → P (cell_at rows i j)) → EachIs P (line_along Down j rows)
column_of P [] j h = tt
column_of P (row ∷ rows) j h = (h 0, column_of P rows j (λ i. h (suc i)))

line_each : (P : ℕ → Type 0) (rows : Rows) (axis : Axis) (at : ℕ) → ((i j : ℕ) → P (cell_at rows i j)) → EachIs P (line_along axis at rows)
line_each P rows Across at h = each_of P (row_at rows at) (h at)
line_each P rows Down at h = column_of P rows at (λ i. h i at)

-- what holds of the background and of each cell of a picture holds of each cell of one with its clues
pub each_of_other : CluesAreOfLines → (P : ℕ → Type 0) → P 0 → (picture other : Rows) → length other ≡ length picture → clues_of other ≡ clues_of picture
    → ((i j : ℕ) → P (cell_at picture i j)) → (i j : ℕ) → P (cell_at other i j)
each_of_other law P z picture other rows same h i j = elim (cases_lt i (length other)) [
  | inl l ↦
      let line : LineId = record { axis = Across; at = i } in
      let here = law.clues picture line (omega (arith, rows)) in
      let there = law.clues other line l in
      let clue : clue_of (row_at picture i) ≡ clue_of (row_at other i) = sym here ∙ (sym (ap (λ c. clue_at c line) same) ∙ there) in
      let blocks : EachBlockIs P (clue_of (row_at other i)) = subst (EachBlockIs P) clue (blocks_are P (row_at picture i) (each_of P (row_at picture i) (h i))) in
      at_each P z (row_at other i) (cells_are P z (row_at other i) blocks) j
  | inr n ↦ subst (λ (row : List ℕ). P (slice_index row j)) (sym (get_or_past other i [] n)) z
]

-- ---- the clues of a renumbered picture

clue_moved : CluesAreOfLines → (there back : ℕ → ℕ) → there 0 ≡ 0 → back 0 ≡ 0 → (rows : Rows) → ((i j : ℕ) → ComesBack there back (cell_at rows i j)) → (line : LineId) → HasLine rows line
    → clue_at (clues_of (moved there rows)) line ≡ map (recoloured there) (clue_at (clues_of rows) line)
clue_moved law there back t b rows h line has =
    let count = lines_moved there rows line.axis in
    law.clues (moved there rows) line (omega (arith, count, has))
    ∙ (ap clue_of (line_moved there t rows line.axis line.at)
    ∙ (clue_recoloured there back t b (line_of rows line) (line_each (ComesBack there back) rows line.axis line.at h)
    ∙ sym (ap (map (recoloured there)) (law.clues rows line has))))

pub clues_moved : CluesAreOfLines → BooksAreTheirClues → (there back : ℕ → ℕ) → there 0 ≡ 0 → back 0 ≡ 0 → (picture other : Rows) → SameShape other picture → clues_of other ≡ clues_of picture
    → ((i j : ℕ) → ComesBack there back (cell_at picture i j)) → ((i j : ℕ) → ComesBack there back (cell_at other i j)) → clues_of (moved there other) ≡ clues_of (moved there picture)
clues_moved law books there back t b picture other shape same h k =
    let sizes : (axis : Axis) → lines_along axis other ≡ lines_along axis picture = λ axis. sym (law.sizes other axis) ∙ (ap (λ c. length (clues_along axis c)) same ∙ law.sizes picture axis) in
    books (clues_of (moved there other)) (clues_of (moved there picture))
    (λ axis. law.sizes (moved there other) axis ∙ (lines_moved there other axis ∙ (sizes axis ∙ (sym (lines_moved there picture axis) ∙ sym (law.sizes (moved there picture) axis)))))
    (λ line has.
    let count = law.sizes (moved there other) line.axis in
    let lines = lines_moved there other line.axis in
    let more = sizes line.axis in
    clue_moved law there back t b other k line (omega (arith, has, count, lines))
    ∙ (ap (λ c. map (recoloured there) (clue_at c line)) same
    ∙ sym (clue_moved law there back t b picture h line (omega (arith, has, count, lines, more)))))

-- ---- other pictures

row_restored : (there back : ℕ → ℕ) (row : List ℕ) → EachIs (ComesBack there back) row → map back (map there row) ≡ row
row_restored there back [] h = refl
row_restored there back (x ∷ row) h = ap (λ (y : ℕ). y ∷ map back (map there row)) h.0 ∙ ap (λ (xs : List ℕ). x ∷ xs) (row_restored there back row h.1)

pub restored : (there back : ℕ → ℕ) (rows : Rows) → ((i j : ℕ) → ComesBack there back (cell_at rows i j)) → moved back (moved there rows) ≡ rows
restored there back [] h = refl
restored there back (row ∷ rows) h =
    ap (λ (x : List ℕ). x ∷ moved back (moved there rows)) (row_restored there back row (each_of (ComesBack there back) row (h 0)))
    ∙ ap (λ (xs : List (List ℕ)). row ∷ xs) (restored there back rows (λ i. h (suc i)))

-- another picture with its colours renumbered is another one for the renumbered picture
pub other_moved : CluesAreOfLines → BooksAreTheirClues → (there back : ℕ → ℕ) → there 0 ≡ 0 → back 0 ≡ 0 → (d e : Design) → e.rows ≡ moved there d.rows → e.marks ≡ d.marks
    → ((i j : ℕ) → ComesBack there back (cell_at d.rows i j)) → ((i j : ℕ) → there (cell_at d.rows i j) < 16) → (other : Rows) → IsOtherFor d other → IsOtherFor e (moved there other)
other_moved law books there back t b d e are marks comes small other o =
    let P : ℕ → Type 0 = λ x. ComesBack there back x × (there x < 16) in
    let none : P 0 = (ap back t ∙ b, omega (arith, t)) in
    let s = o.solves in
    let each = each_of_other law P none d.rows other s.rows s.has_clues (λ i j. (comes i j, small i j)) in
    let come : (i j : ℕ) → ComesBack there back (cell_at other i j) = λ i j. (each i j).0 in
    let shape : SameShape (moved there other) e.rows = subst (SameShape (moved there other)) (sym are) (shape_moved there other d.rows (solved_shape s)) in
    record {
      solves = record {
        is_picture = picture_moved there t other s.is_picture (λ i j. (each i j).1);
        rows = shape.rows;
        columns = shape.each;
        has_clues = clues_moved law books there back t b d.rows other (solved_shape s) s.has_clues comes come ∙ ap clues_of (sym are);
        keeps_givens = λ row col g.
            let given : cell_at d.marks row col ≡ 1 = subst (λ (m : List (List ℕ)). cell_at m row col ≡ 1) marks g in
            cell_moved there t other row col
            ∙ (ap there (s.keeps_givens row col given)
            ∙ (sym (cell_moved there t d.rows row col) ∙ ap (λ (rows : Rows). cell_at rows row col) (sym are)));
      };
      differs = λ h. o.differs (sym (restored there back other come) ∙ (ap (moved back) (h ∙ are) ∙ restored there back d.rows comes));
    }

-- ---- other pictures of a document

pub coloured : CluesAreOfLines → OthersAreColoured
coloured law d other colours o i j =
    let first = colours 0 0 in
    each_of_other law (λ (x : ℕ). x < length d.colours.triples) (omega arith) d.rows other o.solves.rows o.solves.has_clues colours i j

pub ruleset others = (coloured)
