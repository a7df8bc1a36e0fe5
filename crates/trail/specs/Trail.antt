-- The branches that wait on a trail, and the notes that record them.
use Rattle.std.specs.Prelude.{◌≡◌, ℕ, ◌^◌, ◌<◌, Option, None, Some, List, [], ◌∷◌, ◌++◌, length, map}
use Rattle.line_facts.specs.Masks.{Masks}
use Rattle.picture.specs.LineSet.{Lines, HasName}
use Rattle.picture.specs.Rows.{cell_at, with_cell}
use Rattle.line_facts.specs.FactSets.{SameShape}
use Rattle.line_facts.specs.Branches.{branches, colours_of}
use Rattle.trail.specs.declared.cell.Cell.{Cell}
use Rattle.trail.specs.Through.{across}
use Rattle.trail.specs.declared.note.CellMask.{CellMask}
use Rattle.trail.specs.declared.note.Wait.{Wait}
use Rattle.trail.specs.declared.note.Wait.TheVariants.{Each, Whole}
use Rattle.trail.specs.declared.note.Note.{Note}
use Rattle.trail.specs.declared.note.Note.TheVariants.{Restore, Branch}

abbrev pub place : ℕ → ℕ → Cell
place row col = record { row = row; col = col }

-- the cell that is held in each of its branches
abbrev pub places : ℕ → ℕ → ℕ → List Cell
places row col mask = map (λ (k : ℕ). place row col) (colours_of mask)

-- the branches that wait: a cell held to each colour of a mask, or to the mask as a whole
abbrev pub begun : Masks → Wait → List (List (List ℕ))
begun facts (Each cell) = branches facts cell.row cell.col cell.mask
begun facts (Whole cell) = with_cell facts cell.row cell.col cell.mask ∷ []

-- the cell that is held in each of them
abbrev pub places_of : Wait → List Cell
places_of (Each cell) = places cell.row cell.col cell.mask
places_of (Whole cell) = place cell.row cell.col ∷ []

-- The facts of the branches that wait, as the notes record them, the newest first: a cell gets its mask back, or
-- branches begin.
abbrev pub waiting : Masks → List Note → List (List (List ℕ))
waiting facts [] = []
waiting facts (Restore cell ∷ notes) = waiting (with_cell facts cell.row cell.col cell.mask) notes
waiting facts (Branch wait ∷ notes) = begun facts wait ++ waiting facts notes

-- for each of these branches, the cell that is held in it
abbrev pub cells_held : List Note → List Cell
cells_held [] = []
cells_held (Restore cell ∷ notes) = cells_held notes
cells_held (Branch wait ∷ notes) = places_of wait ++ cells_held notes

-- a cell lies in a picture of that size, and its mask is one of sixteen colours
pub record IsInside (height width : ℕ) (cell : CellMask) : Type 0 where
  pub in_rows : cell.row < height
  pub in_columns : cell.col < width
  pub small : cell.mask < 2 ^ 16

abbrev pub LiesInside : ℕ → ℕ → Wait → Type 0
LiesInside height width (Each cell) = IsInside height width cell
LiesInside height width (Whole cell) = IsInside height width cell

abbrev pub AreInside : ℕ → ℕ → List Note → Type 0
AreInside height width [] = Unit {0}
AreInside height width (Restore cell ∷ notes) = IsInside height width cell × AreInside height width notes
AreInside height width (Branch wait ∷ notes) = LiesInside height width wait × AreInside height width notes

-- a branch can begin: its cell lies inside, and where each colour is tried there is one left to try
abbrev pub CanBegin : ℕ → ℕ → Wait → Type 0
CanBegin height width (Each cell) = (0 < cell.mask) × IsInside height width cell
CanBegin height width (Whole cell) = IsInside height width cell

-- Cells got their masks back, down to the newest note of branches that wait; or no branch waits.
abbrev pub PutsBack : Masks → List Note → Masks → List Note → Option Wait → Type 0
PutsBack old notes new rest None = waiting old notes ≡ []
PutsBack old notes new rest (Some wait) =
    (waiting old notes ≡ begun new wait ++ waiting new rest) × (cells_held notes ≡ places_of wait ++ cells_held rest)

-- the facts at hand, those of the branches that wait, and for each of these the cell that is held in it
pub record Trailed : Type 0 where
  pub at_hand : List (List ℕ)
  pub behind : List (List (List ℕ))
  pub cells : List Cell

abbrev pub trail_of : List (List ℕ) → List (List (List ℕ)) → List Cell → Trailed
trail_of at_hand behind cells = record { at_hand = at_hand; behind = behind; cells = cells }

-- one row is that of other facts, and the other rows are as they were
pub record IsRowTaken (old settled new : Masks) (row : ℕ) : Type 0 where
  pub same_shape : SameShape old new
  pub here : (col : ℕ) → cell_at new row col ≡ cell_at settled row col
  pub elsewhere : (r col : ℕ) → (r ≡ row → ⊥) → cell_at new r col ≡ cell_at old r col

-- the first rows are those of other facts
abbrev pub AreSameAbove : Masks → Masks → ℕ → Type 0
AreSameAbove facts settled rows = (row col : ℕ) → row < rows → cell_at facts row col ≡ cell_at settled row col

-- the rows that are not named are those of other facts
abbrev pub AreOthersSame : Masks → Masks → Lines → Type 0
AreOthersSame facts settled rows = (row col : ℕ) → row < length settled → (HasName rows (across row) → ⊥)
    → cell_at facts row col ≡ cell_at settled row col

-- the next branch that waited, in which this cell is held, is at hand; or no branch waits
abbrev pub GoesOn : Trailed → Trailed → Option Cell → Type 0
GoesOn old new (Some cell) = (old.behind ≡ new.at_hand ∷ new.behind) × (old.cells ≡ cell ∷ new.cells)
GoesOn old new None = old.behind ≡ []
