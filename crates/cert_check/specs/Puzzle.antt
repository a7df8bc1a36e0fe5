-- What a certificate is about: a picture, its clues, and facts about its cells.
use Rattle.std.specs.Prelude.{◌≡◌, ℕ, ◌+◌, ◌-◌, ◌<◌, ◌≤◌, ◌↔◌, List, length, slice_index}
use Rattle.std.specs.Prelude.{IsBitSet}
use Rattle.std.specs.List.{Contains, fold}
use Rattle.line_facts.specs.Masks.{Masks}
use Rattle.picture.specs.declared.line_id.LineId.{LineId}
use Rattle.picture.specs.Rows.{width_of, cell_at, line_of, lines_along, Rows}
use Rattle.clues.specs.ClueBook.{clue_at, clues_of}
use Rattle.clues.specs.Solution.{IsOnlySolution}
use Rattle.line_facts.specs.Fits.{CanFit, CanHave}
use Rattle.line_facts.specs.FactSets.{IsOn, Leaves, SameShape, nothing_excluded, with_given}
use Rattle.line_facts.specs.Branches.{branches}
use Rattle.cert_text.specs.declared.cert_line.CellNumber.{CellNumber}
use Rattle.cert_text.specs.declared.cert_line.LineNumber.{LineNumber}

-- ---- places by number

-- the grid has a line with that number
abbrev pub HasLineNumber : Rows → LineNumber → Type 0
HasLineNumber grid line = (0 < line.number) × (line.number ≤ lines_along line.axis grid)

-- the line that a number names
abbrev pub line_id : LineNumber → LineId
line_id line = record { axis = line.axis; at = line.number - 1 }

-- the grid has a cell with these numbers
abbrev pub HasCellNumber : Rows → CellNumber → Type 0
HasCellNumber grid cell = (0 < cell.row) × (cell.row ≤ length grid) × (0 < cell.col) × (cell.col ≤ width_of grid)

-- the number of a cell at a row and a column
abbrev pub numbered : ℕ → ℕ → CellNumber
numbered row col = record { row = row + 1; col = col + 1 }

-- a cell is one of those that are named
abbrev pub IsNamed : List CellNumber → ℕ → ℕ → Type 0
IsNamed cells row col = Contains cells (numbered row col)

-- ---- what lines do to facts, by the clues of a picture

-- The facts with all that a line forces: its cells have exactly the colours that some list of colours that fits has
-- there (none if no list fits), and the other cells are as they were.
pub record IsForced (picture : Rows) (facts : Masks) (line : LineId) (more : Masks) : Type 0 where
  pub same_shape : SameShape facts more
  pub exact : (i k : ℕ) → IsBitSet (slice_index (line_of more line) i) k
      ↔ CanHave (clue_at (clues_of picture) line) (line_of facts line) i k
  pub elsewhere : (row col : ℕ) → (IsOn line row col → ⊥) → cell_at more row col ≡ cell_at facts row col

-- no list of colours fits a line
abbrev pub IsDead : Rows → Masks → LineId → Type 0
IsDead picture facts line = CanFit (clue_at (clues_of picture) line) (line_of facts line) → ⊥

-- the branches of a cell: one for each colour left in it
abbrev pub split_at : Masks → CellNumber → List (List (List ℕ))
split_at facts cell = branches facts (cell.row - 1) (cell.col - 1) (cell_at facts (cell.row - 1) (cell.col - 1))

-- no colour is left anywhere but the picture's; a cell may have none left
abbrev pub ShowsOnly : Rows → Masks → Type 0
ShowsOnly picture facts = (row col k : ℕ) → Leaves facts row col k → k ≡ cell_at picture row col

-- ---- givens

-- the facts with only the picture's colour left in each given
abbrev pub with_givens : Rows → List CellNumber → Masks → Masks
with_givens picture givens facts = fold (λ fs cell. with_given picture fs (cell.row - 1) (cell.col - 1)) facts givens

-- the facts of the givens, where nothing else is excluded: the root of a tree
abbrev pub base_of : Rows → List CellNumber → Masks
base_of picture givens = with_givens picture givens (nothing_excluded (length picture) (width_of picture))

-- ---- what a certificate shows

-- no other picture of the same size has the picture's clues and its colours in the givens
abbrev pub IsUnique : Rows → List CellNumber → Type 0
IsUnique picture givens = IsOnlySolution (clues_of picture) (IsNamed givens) picture
