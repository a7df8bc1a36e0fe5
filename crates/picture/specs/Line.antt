-- A line of a flat list of cells: those at equal distances.
use Rattle.std.specs.Prelude.{ℕ, zero, suc, ◌+◌, ◌*◌, ◌<◌, ◌≤◌, ◌^◌, List, [], ◌∷◌, length, slice_index}
use Rattle.picture.specs.declared.picture.TheConstants.{MAX_SIDE, MAX_COLOURS}

-- `count` cells, from `start` on, each `step` after the one before
abbrev pub spaced : List ℕ → ℕ → ℕ → ℕ → List ℕ
spaced cells start step zero = []
spaced cells start step (suc count) = slice_index cells start ∷ spaced cells (start + step) step count

-- what callers know of a line: at least one cell and no more than a picture's side, each with one of the colours
pub record IsLine (line : List ℕ) : Type 0 where
  pub has_cell : 0 < length line
  pub short : length line ≤ MAX_SIDE
  pub colours : (i : ℕ) → slice_index line i < MAX_COLOURS

-- the cells of the line lie in the list
pub record IsSpaced (cells : List ℕ) (start step count : ℕ) : Type 0 where
  pub inside : (i : ℕ) → i < count → start + i * step < length cells
  pub near : start + count * step ≤ 2 ^ 32
  pub short : count ≤ MAX_SIDE
  pub narrow : step ≤ MAX_SIDE
  pub colours : (i : ℕ) → slice_index cells i < MAX_COLOURS
