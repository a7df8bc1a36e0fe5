-- Sets of positions of a line: position i, which is bit i of a number, is before cell i, and the last is at the end.
use Rattle.std.specs.Prelude.{◌≡◌, ℕ, zero, suc, ◌+◌, ◌^◌, ◌<◌, ◌≤◌, List, Bool, true, ◌==◌, ◌&&◌, ◌||◌, length}
use Rattle.std.specs.Prelude.{slice_index}
use Rattle.line_settle.specs.Patterns.{allows}
use Rattle.line_facts.specs.BitSets.{has}

-- a set has the positions before the cells in which colour k is left, and not the position after the last cell
abbrev pub IsCellsWith : List ℕ → ℕ → ℕ → Type 0
IsCellsWith left k set = (i : ℕ) → i ≤ length left → has set i ≡ allows (slice_index left i) k

-- `allowed` has such a set for each colour of the mask `made`
abbrev pub HasMade : List ℕ → ℕ → List ℕ → Type 0
HasMade left made allowed = (k : ℕ) → allows made k ≡ true → IsCellsWith left k (slice_index allowed k)

-- The cells from `first` to before `end` have `colour` left after the positions of a set, which is counted from
-- `first`, and their old colours if `keep` is true, and no others. The other cells are as they were.
pub record IsColoured (set colour : ℕ) (keep : Bool) (first end : ℕ) (old new : List ℕ) : Type 0 where
  pub inside : (i j k : ℕ) → i ≡ first + j → i < end
      → allows (slice_index new i) k ≡ ((keep && allows (slice_index old i) k) || (has set j && colour == k))
  pub before : (i : ℕ) → i < first → slice_index new i ≡ slice_index old i
  pub behind : (i : ℕ) → end ≤ i → slice_index new i ≡ slice_index old i

-- n cells in a row are in a set, from position i on
abbrev pub spans : (ℕ → Bool) → ℕ → ℕ → Bool
spans cells zero i = true
spans cells (suc n) i = cells i && spans cells n (i + 1)

-- sets of the positions from which 1, 2, 4 and so on cells in a
-- row are in a set of cells, for the powers of two below a width
abbrev pub AreSpans : ℕ → ℕ → List ℕ → Type 0
AreSpans width cells spanned = (k i : ℕ) → 2 ^ k < width → has (slice_index spanned k) i ≡ spans (has cells) (2 ^ k) i
