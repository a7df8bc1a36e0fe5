-- How many lines a judgement evaluates at most under an allowance.
use Rattle.std.specs.Prelude.{◌≡◌, ℕ, ◌+◌, ◌-◌, ◌*◌, ◌^◌, ◌≤◌, Option, None, Some, [], ◌∷◌, length, max, refl}
use Rattle.line_facts.specs.Counts.{counted}
use Rattle.line_facts.specs.Masks.{Masks}
use Rattle.picture.specs.Rows.{width_of}

-- Closing facts takes at most one evaluation for each line, and one more for each colour that a cell can lose.
unfoldable pub most_to_close : Masks → ℕ
most_to_close facts = length facts + width_of facts + 16 * (length facts * width_of facts)

-- A search closes facts once, and once more for each colour of a cell that is split, at most sixteen.
unfoldable pub most_to_search : Masks → ℕ → ℕ
most_to_search facts splits = (1 + 16 * splits) * most_to_close facts

-- Under an allowance of splits for each part, the evaluations are at most what the search of this many parts can
-- take; without an allowance there is no bound.
abbrev pub AreFew : Option ℕ → Masks → ℕ → ℕ → Type 0
AreFew None facts parts evaluations = Unit {0}
AreFew (Some splits) facts parts evaluations = evaluations ≤ parts * most_to_search facts splits

-- at how many of the engine's calls a tree is broken off; where no number is set, at the largest
abbrev pub last_call : Option ℕ → ℕ
last_call None = 2 ^ 64 - 1
last_call (Some until) = until

-- Once the engine has counted so many calls, it is called at most once more for each line.
abbrev pub AreFewUntil : Option ℕ → Masks → ℕ → ℕ → Type 0
AreFewUntil until facts before after = after ≤ max before (last_call until) + (length facts + width_of facts)

-- a tree is broken off only where a number of the engine's calls is set for it, and once they have reached that
abbrev pub IsBrokenOff : Option ℕ → ℕ → Type 0
IsBrokenOff until calls = (until ≡ None → ⊥) × (last_call until ≤ calls)

-- Both of two trees have reached a bound of evaluations: the engine was called so often for each, or its count of calls
-- can rise no more.
abbrev pub BothReach : ℕ → ℕ → ℕ → Type 0
BothReach bound before after = counted before (2 * bound) ≤ after

-- A tree within a bound of evaluations takes at most one more for each line.
unfoldable pub most_in_tree : Masks → ℕ → ℕ
most_in_tree facts bound = bound + (length facts + width_of facts)

-- ---- worked by hand

-- two cells in a row: 3 lines and 32 colours; and the same once more for each of 16 colours, where one cell is split
worked_pair : most_to_close ((3 ∷ 3 ∷ []) ∷ []) ≡ 35
unfolding most_to_close
worked_pair = refl

worked_split : most_to_search ((3 ∷ 3 ∷ []) ∷ []) 1 ≡ 595
unfolding most_to_search most_to_close
worked_split = refl
