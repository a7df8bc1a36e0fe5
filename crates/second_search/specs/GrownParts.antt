-- Parts as they are found: row by row, and each of them line by line.
use Rattle.std.specs.Prelude.{◌≡◌, ℕ, ◌<◌, ◌⊎◌, ◌↔◌, List, length}
use Rattle.line_facts.specs.Masks.{Masks}
use Rattle.picture.specs.declared.line_id.LineId.{LineId}
use Rattle.picture.specs.CellSet.{HasCell, PutsCell}
use Rattle.picture.specs.LineSet.{HasName, TakesOutName}
use Rattle.picture.specs.Rows.{width_of, HasLine}
use Rattle.clues.specs.Laws.{IsOnLine}
use Rattle.second_search.specs.declared.parts.growth.Growth.{Growth}
use Rattle.second_search.specs.Parts.{GoesThrough, IsBefore, IsChained, IsOpenCell, IsPart, IsPartFrom, part_at}

-- the first open cell of a row
pub record IsFirstOpen (facts : Masks) (row col : ℕ) : Type 0 where
  pub in_columns : col < width_of facts
  pub is_open : IsOpenCell facts row col
  pub first : (c : ℕ) → c < col → IsOpenCell facts row c → ⊥

abbrev pub HasNoOpenCell : Masks → ℕ → Type 0
HasNoOpenCell facts row = (col : ℕ) → IsOpenCell facts row col → ⊥

-- some part has the cell
abbrev pub HoldsCell : List (List ℕ) → ℕ → ℕ → Type 0
HoldsCell parts row col = (i : ℕ) × ((i < length parts) × HasCell (part_at parts i) row col)

-- the parts whose first cells lie in the first `rows` rows, in order: each open cell of these rows is in one of them
pub record ArePartsAbove (facts : Masks) (parts : List (List ℕ)) (rows : ℕ) : Type 0 where
  pub each : (i : ℕ) → i < length parts → IsPart facts (part_at parts i)
  pub ordered : (i j row col r c : ℕ) → i < j → j < length parts → IsPartFrom facts (part_at parts i) row col
      → IsPartFrom facts (part_at parts j) r c → IsBefore row col r c
  pub above : (i row col : ℕ) → i < length parts → IsPartFrom facts (part_at parts i) row col → row < rows
  pub all : (row col : ℕ) → row < rows → IsOpenCell facts row col → HoldsCell parts row col

-- a cell is added to a part, and its lines wait unless they were visited
pub record TakesIn (row col : ℕ) (old new : Growth) : Type 0 where
  pub cells : PutsCell old.cells new.cells row col
  pub waiting : (line : LineId)
      → HasName new.waiting line ↔ (HasName old.waiting line ⊎ (HasName old.unvisited line × IsOnLine line row col))
  pub unvisited : new.unvisited ≡ old.unvisited

-- A part as it grows: cells that are chained to the first one. A line through one of them waits unless it was
-- visited, and the open cells of a visited line are among them.
pub record IsGrown (facts : Masks) (row col : ℕ) (growth : Growth) : Type 0 where
  pub begins : HasCell growth.cells row col
  pub chained : (r c : ℕ) → HasCell growth.cells r c → IsChained facts row col r c
  pub waits : (r c : ℕ) (line : LineId) → HasCell growth.cells r c → IsOnLine line r c → HasName growth.unvisited line
      → HasName growth.waiting line
  pub reached : (line : LineId) → HasName growth.waiting line
      → HasName growth.unvisited line × GoesThrough line growth.cells
  pub visited : (r c : ℕ) (line : LineId) → IsOnLine line r c → (HasName growth.unvisited line → ⊥)
      → IsOpenCell facts r c → HasCell growth.cells r c
  pub inside : (line : LineId) → HasName growth.unvisited line → HasLine facts line

-- the open cells of a line are among the cells
abbrev pub HasOpenCellsOf : Masks → LineId → List ℕ → Type 0
HasOpenCellsOf facts line cells = (r c : ℕ) → IsOnLine line r c → IsOpenCell facts r c → HasCell cells r c

-- a line no longer waits, and counts as visited
pub record Leaves (line : LineId) (old new : Growth) : Type 0 where
  pub cells : new.cells ≡ old.cells
  pub waiting : TakesOutName old.waiting new.waiting line
  pub unvisited : TakesOutName old.unvisited new.unvisited line
