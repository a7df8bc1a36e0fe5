-- The facts with which line logic starts: the colours that clues, background and givens allow.
use Rattle.std.specs.Prelude.{◌≡◌, ◌⊎◌, ◌↔◌, ℕ, ◌<◌, List, [], length, slice_index_or, IsBitSet}
use Rattle.line_facts.specs.Masks.{Masks}
use Rattle.picture.specs.declared.line_id.Axis.{Axis}
use Rattle.picture.specs.declared.line_id.Axis.TheVariants.{Across, Down}
use Rattle.picture.specs.CellSet.{HasCell}
use Rattle.picture.specs.Rows.{width_of, cell_at, Rows}
use Rattle.clues.specs.declared.block.Block.{Block}
use Rattle.clues.specs.Clue.{block}
use Rattle.clues.specs.ClueBook.{Clues, clues_along}
use Rattle.line_facts.specs.FactSets.{Leaves, SameShape}

-- a block of a clue has the colour
abbrev pub HasColour : List Block → ℕ → Type 0
HasColour clue k = (i : ℕ) × (i < length clue) × ((slice_index_or clue i (block 0 0)).colour ≡ k)

-- some clue along an axis names the colour
abbrev pub IsNamedAlong : Axis → Clues → ℕ → Type 0
IsNamedAlong axis clues k =
    (at : ℕ) × (at < length (clues_along axis clues)) × HasColour (slice_index_or (clues_along axis clues) at []) k

-- some clue names the colour
abbrev pub IsNamed : Clues → ℕ → Type 0
IsNamed clues k = IsNamedAlong Across clues k ⊎ IsNamedAlong Down clues k

-- a given can have its own colour alone, and any other cell those that are free
abbrev pub CanHaveColour : (ℕ → Type 0) → List ℕ → Rows → ℕ → ℕ → ℕ → Type 0
CanHaveColour Free givens picture row col k =
    (HasCell givens row col → k ≡ cell_at picture row col) × ((HasCell givens row col → ⊥) → Free k)

-- in a cell that is not given the background may stand, and each colour that some clue names
abbrev pub IsAllowed : Clues → ℕ → Type 0
IsAllowed clues k = (k ≡ 0) ⊎ IsNamed clues k

pub record IsStart (clues : Clues) (givens : List ℕ) (picture : Rows) (facts : Masks) : Type 0 where
  pub same_shape : SameShape picture facts
  pub left : (row col k : ℕ) → row < length picture → col < width_of picture
      → Leaves facts row col k ↔ CanHaveColour (IsAllowed clues) givens picture row col k

-- In one row the colours are left that can be there, where those of a mask are free; the other rows are as they were.
pub record MakesStartRow (free : ℕ) (givens : List ℕ) (picture : Rows) (old new : Masks) (row : ℕ) : Type 0 where
  pub same_shape : SameShape picture new
  pub left : (col k : ℕ) → col < width_of picture
      → Leaves new row col k ↔ CanHaveColour (IsBitSet free) givens picture row col k
  pub elsewhere : (r col : ℕ) → (r ≡ row → ⊥) → cell_at new r col ≡ cell_at old r col
