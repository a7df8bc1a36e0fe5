-- The first given, row by row, that a puzzle does not need.
use Rattle.std.specs.Prelude.{◌≡◌, ◌⊎◌, ◌↔◌, ℕ, ◌<◌, Bool, true, false, List, Option, None, Some}
use Rattle.line_facts.specs.Masks.{IsOnly, Masks}
use Rattle.picture.specs.CellSet.{HasCell, TakesOutCell}
use Rattle.picture.specs.Rows.{Rows, cell_at}
use Rattle.clues.specs.ClueBook.{clues_of}
use Rattle.clues.specs.Solution.{IsOnlySolution}
use Rattle.second_search.specs.Parts.{IsOpenCell}
use Rattle.trail.specs.declared.cell.Cell.{Cell}
use Rattle.assess.specs.Settling.{IsMap}

-- a puzzle without one of its givens, with its map, and the map with that given
pub record Without (picture : Rows) (givens : List ℕ) (row col : ℕ) : Type 0 where
  pub others : List ℕ
  pub left_out : TakesOutCell givens others row col
  pub map_with : Masks
  pub is_map_with : IsMap picture givens map_with
  pub map_without : Masks
  pub is_map_without : IsMap picture others map_without

-- line logic leaves the same cells open
abbrev pub LeavesSameOpen : Masks → Masks → Type 0
LeavesSameOpen one other = (row col : ℕ) → IsOpenCell one row col ↔ IsOpenCell other row col

-- without the given there is still one solution, and line logic leaves the same cells open
abbrev pub AddsNothing : (picture : Rows) (givens : List ℕ) (row col : ℕ) → Without picture givens row col → Type 0
AddsNothing picture givens row col w = IsOnlySolution (clues_of picture) (HasCell w.others) picture
    × LeavesSameOpen w.map_with w.map_without

-- a given that is not needed
pub record IsSpareAt (picture : Rows) (givens : List ℕ) (row col : ℕ) : Type 0 where
  pub given : HasCell givens row col
  pub without : Without picture givens row col
  pub adds_nothing : AddsNothing picture givens row col without

-- a given without which there is another solution, or line logic leaves other cells open
pub record IsNeededAt (picture : Rows) (givens : List ℕ) (row col : ℕ) : Type 0 where
  pub without : Without picture givens row col
  pub adds_some : AddsNothing picture givens row col without → ⊥

-- one cell comes before another, row by row
abbrev pub ComesBefore : ℕ → ℕ → ℕ → ℕ → Type 0
ComesBefore r c row col = (r < row) ⊎ ((r ≡ row) × (c < col))

-- each given before a cell is needed
abbrev pub AreNeededBefore : Rows → List ℕ → ℕ → ℕ → Type 0
AreNeededBefore picture givens row col = (r c : ℕ) → ComesBefore r c row col → HasCell givens r c
    → IsNeededAt picture givens r c

-- The first given without which there is still one solution and line logic leaves the same cells open; or each given is
-- needed.
abbrev pub IsSpare : Rows → List ℕ → Option Cell → Type 0
IsSpare picture givens (Some cell) =
    IsSpareAt picture givens cell.row cell.col × AreNeededBefore picture givens cell.row cell.col
IsSpare picture givens None = (row col : ℕ) → HasCell givens row col → IsNeededAt picture givens row col

-- ---- how it is found

-- the puzzle has a map, as each has
abbrev pub HasMap : Rows → List ℕ → Type 0
HasMap picture givens = (map : Masks) × IsMap picture givens map

-- just one colour is left, or not
abbrev pub IsSettledIf : Bool → ℕ → Type 0
IsSettledIf true mask = (k : ℕ) × IsOnly mask k
IsSettledIf false mask = (k : ℕ) → IsOnly mask k → ⊥

-- whether line logic settles the cell of a given without it
pub record SettlesWithout (picture : Rows) (givens : List ℕ) (row col : ℕ) (settled : Bool) : Type 0 where
  pub others : List ℕ
  pub left_out : TakesOutCell givens others row col
  pub map : Masks
  pub is_map : IsMap picture others map
  pub settled_if : IsSettledIf settled (cell_at map row col)
