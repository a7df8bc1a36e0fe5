-- The cells and the givens of a line one by one.
use Rattle.std.proofs.Common.{◌≡◌, ◌≢◌, ℕ, ◌+◌, ◌<◌, ◌==◌, List, [], ◌∷◌, ◌++◌, length, append-nil, sym, ap, ◌∙◌, arith}
use Rattle.std.proofs.lemmas.Bool.{cond-true, cond-false, eq-eqb, ne_eqb}
use Rattle.picture.specs.declared.line_id.LineId.{LineId}
use Rattle.picture.specs.Rows.{cell_at, width_of, Rows}
use Rattle.edits.specs.Design.{mark_at, marks_of, Marks}
use Rattle.edits.specs.Note.{Cell, joined, cell_on, given_on, place_on, cells_along, cells_of_line, givens_of_line}
use Rattle.edits.proofs.CellLemmas.{joined_none, joined_more}
use Rattle.edits.proofs.GridLemmas.{grid_is_grid}
use Rattle.picture.specs.declared.line_id.Axis.{Axis}
use Rattle.picture.specs.declared.line_id.Axis.TheVariants.{Across, Down}

-- the first cells, and the first givens, of a line
unfoldable pub line_cells : Rows → LineId → ℕ → List Cell
line_cells rows line n = joined (λ k. cell_on rows (place_on line.axis line.at k) ∷ []) n

unfoldable pub line_givens : Marks → LineId → ℕ → List (ℕ × ℕ)
line_givens marks line n = joined (λ k. given_on marks (place_on line.axis line.at k)) n

pub no_cells_yet : (rows : Rows) (line : LineId) → [] ≡ line_cells rows line 0
unfolding line_cells
no_cells_yet rows line = sym (joined_none (λ k. cell_on rows (place_on line.axis line.at k) ∷ []))

pub one_cell_more : (rows : Rows) (line : LineId) (n : ℕ) (cells : List Cell) (place : ℕ × ℕ) → cells ≡ line_cells rows line n → place ≡ place_on line.axis line.at n
    → cells ++ (place.0, place.1, cell_at rows place.0 place.1) ∷ [] ≡ line_cells rows line (n + 1)
unfolding line_cells
one_cell_more rows line n cells place same is = grind (arith, cell_on, joined_more, place_on)

pub all_cells : (rows : Rows) (line : LineId) (n : ℕ) (cells : List Cell) → n ≡ cells_along line.axis rows → cells ≡ line_cells rows line n → cells ≡ cells_of_line rows line
unfolding line_cells
all_cells rows line n cells end same = same ∙ ap (joined (λ k. cell_on rows (place_on line.axis line.at k) ∷ [])) end

pub no_givens_yet : (marks : Marks) (line : LineId) → [] ≡ line_givens marks line 0
unfolding line_givens
no_givens_yet marks line = sym (joined_none (λ k. given_on marks (place_on line.axis line.at k)))

pub one_given_more : (marks : Marks) (line : LineId) (n : ℕ) (givens : List (ℕ × ℕ)) (place : ℕ × ℕ) → givens ≡ line_givens marks line n → place ≡ place_on line.axis line.at n
    → cell_at marks place.0 place.1 ≡ 1 → givens ++ (place.0, place.1) ∷ [] ≡ line_givens marks line (n + 1)
unfolding line_givens
one_given_more marks line n givens place same is one =
    let f : ℕ → List (ℕ × ℕ) = λ k. given_on marks (place_on line.axis line.at k) in
    let here : given_on marks place ≡ place ∷ [] =
    cond-false (cell_at marks place.0 place.1 == 0) [] (place ∷ []) (ne_eqb (cell_at marks place.0 place.1) 0 (λ none. absurd (omega (arith, one, none)))) in
    let there : f n ≡ place ∷ [] = ap (given_on marks) (sym is) ∙ here in
    sym (joined_more f n ∙ (ap (λ ys. joined f n ++ ys) there ∙ ap (λ xs. xs ++ place ∷ []) (sym same)))

pub no_given_here : (marks : Marks) (line : LineId) (n : ℕ) (givens : List (ℕ × ℕ)) (place : ℕ × ℕ) → givens ≡ line_givens marks line n → place ≡ place_on line.axis line.at n
    → cell_at marks place.0 place.1 < 2 → cell_at marks place.0 place.1 ≢ 1 → givens ≡ line_givens marks line (n + 1)
unfolding line_givens
no_given_here marks line n givens place same is small other =
    let f : ℕ → List (ℕ × ℕ) = λ k. given_on marks (place_on line.axis line.at k) in
    let here : given_on marks place ≡ [] = cond-true (cell_at marks place.0 place.1 == 0) [] (place ∷ []) (eq-eqb (cell_at marks place.0 place.1) 0 (omega arith)) in
    let there : f n ≡ [] = ap (given_on marks) (sym is) ∙ here in
    same ∙ sym (joined_more f n ∙ (ap (λ ys. joined f n ++ ys) there ∙ append-nil (joined f n)))

pub all_givens : (marks : Marks) (line : LineId) (n : ℕ) (givens : List (ℕ × ℕ)) → n ≡ cells_along line.axis marks → givens ≡ line_givens marks line n → givens ≡ givens_of_line marks line
unfolding line_givens
all_givens marks line n givens end same = same ∙ ap (joined (λ k. given_on marks (place_on line.axis line.at k))) end

pub marks_along : (axis : Axis) (rows : Rows) (givens : List ℕ) → 0 < length rows → cells_along axis (marks_of (length rows) (width_of rows) givens) ≡ cells_along axis rows
marks_along Across rows givens some = (grid_is_grid (length rows) (width_of rows) (mark_at givens)).row_lengths 0 some
marks_along Down rows givens some = (grid_is_grid (length rows) (width_of rows) (mark_at givens)).row_count

pub ruleset keeping = (no_cells_yet, one_cell_more, no_givens_yet, one_given_more)
