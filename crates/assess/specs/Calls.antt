-- How often an assessment calls the engine at most under an allowance.
use Rattle.std.specs.Prelude.{◌≡◌, ◌⊎◌, ℕ, ◌+◌, ◌*◌, ◌≤◌, List, [], Option, None, Some, length}
use Rattle.line_facts.specs.Masks.{Masks}
use Rattle.picture.specs.CellSet.{cell_count}
use Rattle.picture.specs.Rows.{width_of, Rows}
use Rattle.grade.specs.Looks.{Look}
use Rattle.cert_text.specs.Cert.{Certificate}
use Rattle.second_search.specs.Evaluations.{most_in_tree, most_to_close, most_to_search}
use Rattle.assess.specs.declared.grading.TheConstants.{GRADE_EVALUATIONS, GRADE_LINES}
use Rattle.assess.specs.Settling.{AreLooks}

-- the search of the parts of a map, of which there are at most as many as cells
unfoldable pub most_in_parts : Rows → ℕ → ℕ
most_in_parts picture splits = length picture * width_of picture * most_to_search picture splits

abbrev pub AreFewInParts : Rows → Option ℕ → ℕ → ℕ → Type 0
AreFewInParts picture None before after = Unit {0}
AreFewInParts picture (Some splits) before after = after ≤ before + most_in_parts picture splits

-- two trees within the bound, and a look at each line of a certificate
unfoldable pub most_in_trees : Rows → ℕ
most_in_trees picture = 2 * most_in_tree picture GRADE_EVALUATIONS

unfoldable pub most_to_grade : Rows → ℕ
most_to_grade picture = most_in_trees picture + GRADE_LINES

-- a grade, and the facts of the givens closed without each given
unfoldable pub most_besides : Rows → List ℕ → ℕ
most_besides picture givens = most_to_grade picture + cell_count givens * most_to_close picture

-- no look, or those of line logic on the puzzle
abbrev pub AreLooksIfAny : Rows → List ℕ → List Look → Type 0
AreLooksIfAny picture givens looks = (looks ≡ []) ⊎ ((end : Masks) × AreLooks picture givens looks end)

-- the looks of line logic, the search of the parts, a grade, and line logic without each given
abbrev pub AreFewInAll : Rows → List ℕ → Option ℕ → ℕ → ℕ → Type 0
AreFewInAll picture givens allowance before after = (looks : List Look) × (AreLooksIfAny picture givens looks
    × AreFewInParts picture allowance (before + (length looks + most_besides picture givens)) after)

-- by a certificate: each of its lines once, in place of the search
abbrev pub AreFewBy : Rows → List ℕ → Certificate → ℕ → ℕ → Type 0
AreFewBy picture givens cert before after = (looks : List Look) × (AreLooksIfAny picture givens looks
    × (after ≤ before + (length cert.lines + (length looks + most_besides picture givens))))
