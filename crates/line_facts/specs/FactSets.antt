-- Fact sets: for each cell the colours left, as a grid of masks. What is not left is excluded.
use Rattle.std.specs.Prelude.{◌≡◌, ℕ, ◌-◌, ◌*◌, ◌^◌, ◌<◌, ◌≤◌, List, length, slice_index, IsBitSet, ◌↔◌, replicate}
use Rattle.line_facts.specs.Masks.{Masks}
use Rattle.picture.specs.declared.line_id.Axis.{Axis}
use Rattle.picture.specs.declared.line_id.Axis.TheVariants.{Across, Down}
use Rattle.picture.specs.declared.line_id.LineId.{LineId}
use Rattle.picture.specs.declared.picture.TheConstants.{MAX_SIDE}
use Rattle.picture.specs.Rows.{width_of, row_at, cell_at, with_cell, line_of, HasLine, Rows}
use Rattle.picture.specs.CellSet.{HasCell}
use Rattle.clues.specs.declared.block.Block.{Block}
use Rattle.clues.specs.ClueBook.{Clues, clue_at}
use Rattle.line_facts.specs.declared.line_engine.Outcome.{Outcome}
use Rattle.line_facts.specs.Fits.{CanHave}
use Rattle.line_facts.specs.NarrowedLine.{Narrows}

-- colour k is left in a cell
abbrev pub Leaves : Masks → ℕ → ℕ → ℕ → Type 0
Leaves facts row col k = IsBitSet (cell_at facts row col) k

-- colour k is excluded in a cell
abbrev pub Excludes : Masks → ℕ → ℕ → ℕ → Type 0
Excludes facts row col k = Leaves facts row col k → ⊥

-- two grids of one shape
pub record SameShape (a b : List (List ℕ)) : Type 0 where
  pub rows : length a ≡ length b
  pub each : (i : ℕ) → length (row_at a i) ≡ length (row_at b i)

-- Every exclusion of `few` is one of `many`: what `many` leaves, `few` leaves too.
pub record IsWithin (few many : Masks) : Type 0 where
  pub same_shape : SameShape few many
  pub leaves : (row col k : ℕ) → Leaves many row col k → Leaves few row col k

-- what the facts of a picture are: 1 to 120 rows of 1 to 120 masks of 16 bits
pub record IsFacts (facts : Masks) : Type 0 where
  pub has_row : 0 < length facts
  pub rows_fit : length facts ≤ MAX_SIDE
  pub has_column : 0 < width_of facts
  pub columns_fit : width_of facts ≤ MAX_SIDE
  pub rectangular : (i : ℕ) → i < length facts → length (row_at facts i) ≡ width_of facts
  pub masks : (i j : ℕ) → cell_at facts i j < 2 ^ 16

-- the facts of a size that exclude nothing: all sixteen colours everywhere
abbrev pub nothing_excluded : ℕ → ℕ → Masks
nothing_excluded height width = replicate height (replicate width (2 ^ 16 - 1))

-- the facts with the picture's colour alone left in a cell
abbrev pub with_given : Rows → Masks → ℕ → ℕ → Masks
with_given picture facts row col = with_cell facts row col (2 ^ cell_at picture row col)

-- colour k is left in a cell by the givens alone: it is one of the sixteen, and in a given the picture's
abbrev pub IsOpen : List ℕ → Rows → ℕ → ℕ → ℕ → Type 0
IsOpen givens picture row col k = (k < 16) × (HasCell givens row col → k ≡ cell_at picture row col)

-- The facts that the givens alone say: in a given only the picture's colour is left, elsewhere all sixteen are.
pub record IsBase (givens : List ℕ) (picture : Rows) (facts : Masks) : Type 0 where
  pub same_shape : SameShape picture facts
  pub left : (row col k : ℕ) → row < length picture → col < width_of picture
      → Leaves facts row col k ↔ IsOpen givens picture row col k

-- in one row the colours are left that the givens alone leave, and the other rows are as they were
pub record MakesBaseRow (givens : List ℕ) (picture : Rows) (old new : Masks) (row : ℕ) : Type 0 where
  pub same_shape : SameShape picture new
  pub left : (col k : ℕ) → col < width_of picture → Leaves new row col k ↔ IsOpen givens picture row col k
  pub elsewhere : (r col : ℕ) → (r ≡ row → ⊥) → cell_at new r col ≡ cell_at old r col

-- A line forces an exclusion where no list that fits has the colour in that cell. Facts are closed for clues when they
-- hold every exclusion that a line forces from them. Said of the colours that are left: for each of them, some list
-- that fits has it in its cell (`ClosedLinesHoldWhatTheyForce` says that the two are equivalent).
abbrev pub IsClosedLine : List Block → List ℕ → Type 0
IsClosedLine clue left = (i k : ℕ) → IsBitSet (slice_index left i) k → CanHave clue left i k

abbrev pub IsClosed : Clues → Masks → Type 0
IsClosed clues facts = (line : LineId) → HasLine facts line → IsClosedLine (clue_at clues line) (line_of facts line)

-- the least closed facts that hold the base: they lie inside all others
pub record IsLeast (clues : Clues) (base facts : Masks) : Type 0 where
  pub closed : IsClosed clues facts
  pub holds : IsWithin base facts
  pub least : (others : Masks) → IsClosed clues others → IsWithin base others → IsWithin facts others

-- the row of the cell at place i of a line
abbrev pub row_on : Axis → ℕ → ℕ → ℕ
row_on Across at i = at
row_on Down at i = i

-- the column of the cell at place i of a line
abbrev pub col_on : Axis → ℕ → ℕ → ℕ
col_on Across at i = i
col_on Down at i = at

-- a cell is on a line
abbrev pub IsOn : LineId → ℕ → ℕ → Type 0
IsOn line row col = (i : ℕ) × (row ≡ row_on line.axis line.at i) × (col ≡ col_on line.axis line.at i)

-- the facts gain all that the line forces, and nothing elsewhere
pub record Gains (clue : List Block) (line : LineId) (old new : Masks) (outcome : Outcome) : Type 0 where
  pub same_shape : SameShape old new
  pub narrows : Narrows clue (line_of old line) outcome (line_of new line)
  pub elsewhere : (row col : ℕ) → (IsOn line row col → ⊥) → cell_at new row col ≡ cell_at old row col

-- masks of the facts of a size in one list, row after row: each of 16 bits
pub record AreMasks (height width : ℕ) (masks : List ℕ) : Type 0 where
  pub has_row : 0 < height
  pub rows_fit : height ≤ MAX_SIDE
  pub has_column : 0 < width
  pub columns_fit : width ≤ MAX_SIDE
  pub count : length masks ≡ height * width
  pub small : (k : ℕ) → slice_index masks k < 2 ^ 16

-- in one cell the colours of a mask are excluded, and nothing else changes
pub record ExcludesAt (old new : Masks) (row col colours : ℕ) : Type 0 where
  pub same_shape : SameShape old new
  pub here : (k : ℕ) → Leaves new row col k ↔ (Leaves old row col k × (IsBitSet colours k → ⊥))
  pub elsewhere : (r c : ℕ) → ((r ≡ row) × (c ≡ col) → ⊥) → cell_at new r c ≡ cell_at old r c

-- a line has these masks, and elsewhere all is as it was
pub record HoldsLine (line : LineId) (old new : Masks) (masks : List ℕ) : Type 0 where
  pub same_shape : SameShape old new
  pub line_is : line_of new line ≡ masks
  pub elsewhere : (row col : ℕ) → (IsOn line row col → ⊥) → cell_at new row col ≡ cell_at old row col
