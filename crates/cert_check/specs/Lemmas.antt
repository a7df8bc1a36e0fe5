-- Literals, and lemmas by their numbers.
use Rattle.std.specs.Prelude.{◌≡◌, ℕ, ◌+◌, ◌-◌, ◌<◌, ◌≤◌, ◌^◌, List, [], ◌∷◌, length, filter, nat_lt, bit_and, get_or}
use Rattle.std.specs.Prelude.{Option, Some, None}
use Rattle.std.specs.Int.{bit_not, w16}
use Rattle.std.specs.List.{fold, sum_by}
use Rattle.line_facts.specs.Masks.{Masks}
use Rattle.picture.specs.Rows.{cell_at, with_cell, Rows}
use Rattle.cert_text.specs.declared.cert_line.Literal.{Literal}
use Rattle.cert_text.specs.declared.cert_line.TheConstants.{MAX_LEMMA_LITERALS, MAX_LITERALS}
use Rattle.cert_check.specs.Puzzle.{HasCellNumber}

-- ---- literals: some colours of a cell

-- a literal of a picture's cell
abbrev pub HasLiteral : Rows → Literal → Type 0
HasLiteral picture literal = HasCellNumber picture literal.cell × (literal.colours < 2 ^ 16)

-- the colours that are left in the literal's cell
abbrev pub cell_left : Masks → Literal → ℕ
cell_left facts literal = cell_at facts (literal.cell.row - 1) (literal.cell.col - 1)

-- the colours of a literal that are left in its cell
abbrev pub left_of : Masks → Literal → ℕ
left_of facts literal = bit_and (cell_left facts literal) literal.colours

-- the colours that are left in a literal's cell without its own
abbrev pub left_off : Masks → Literal → ℕ
left_off facts literal = bit_and (cell_left facts literal) (bit_not w16 literal.colours)

-- the cell of a literal held to its colours, or to all others
abbrev pub held_to : Masks → Literal → List (List ℕ)
held_to facts literal = with_cell facts (literal.cell.row - 1) (literal.cell.col - 1) (left_of facts literal)

abbrev pub held_off : Masks → Literal → List (List ℕ)
held_off facts literal = with_cell facts (literal.cell.row - 1) (literal.cell.col - 1) (left_off facts literal)

-- the facts in which some literals are denied one after the other
abbrev pub denied_all : Masks → List Literal → List (List ℕ)
denied_all facts literals = fold held_off facts literals

-- the literals of which a colour is left
abbrev pub still_open : Masks → List Literal → List Literal
still_open facts literals = filter (λ literal. nat_lt 0 (left_of facts literal)) literals

-- what follows where only these literals are open and one must hold: if there is just one, its cell is held to it
abbrev pub held_by : Masks → List Literal → List (List ℕ)
held_by facts (literal ∷ []) = held_to facts literal
held_by facts _ = facts

abbrev pub used : Masks → List Literal → List (List ℕ)
used facts literals = held_by facts (still_open facts literals)

-- ---- lemmas

-- the lemmas so far by their numbers, from 0, which is none: their literals, or None where one is no longer kept
abbrev pub Lemmas : Type 0
Lemmas = List (Option (List Literal))

abbrev pub no_lemmas : Lemmas
no_lemmas = None ∷ []

-- the literals of the lemma with a number, where it is kept
abbrev pub lemma_at : Lemmas → ℕ → Option (List Literal)
lemma_at lemmas n = get_or lemmas n None

abbrev pub IsKept : Lemmas → ℕ → Type 0
IsKept lemmas n = (literals : List Literal) × (lemma_at lemmas n ≡ Some literals)

abbrev pub literals_in : Option (List Literal) → ℕ
literals_in None = 0
literals_in (Some literals) = length literals

-- how many literals the lemmas that are kept have
abbrev pub total : Lemmas → ℕ
total lemmas = sum_by literals_in lemmas

-- a lemma with these literals is not too long, neither alone nor beside the lemmas that are kept
abbrev pub Fits : Lemmas → List Literal → Type 0
Fits lemmas literals = (length literals ≤ MAX_LEMMA_LITERALS) × (total lemmas + length literals ≤ MAX_LITERALS)
