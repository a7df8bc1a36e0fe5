-- The lines through some cells, and facts that leave only a picture's colours outside of them.
use Rattle.std.specs.Prelude.{◌≡◌, ℕ, ◌^◌, ◌<◌, ◌⊎◌, ◌↔◌, List}
use Rattle.line_facts.specs.Masks.{Masks}
use Rattle.picture.specs.declared.line_id.LineId.{LineId}
use Rattle.picture.specs.CellSet.{HasCell}
use Rattle.picture.specs.LineSet.{Lines, HasName}
use Rattle.picture.specs.Rows.{width_of, cell_at, Rows}
use Rattle.line_facts.specs.FactSets.{SameShape}
pub use Rattle.trail.specs.Through.{across, down}

-- the two lines through a cell are named
abbrev pub NamesBoth : Lines → ℕ → ℕ → Type 0
NamesBoth lines row col = HasName lines (across row) × HasName lines (down col)

-- the names of the two lines through a cell are put into a set
abbrev pub PutsBoth : ℕ → ℕ → Lines → Lines → Type 0
PutsBoth row col old new = (line : LineId)
    → HasName new line ↔ (HasName old line ⊎ ((line ≡ across row) ⊎ (line ≡ down col)))

-- the names of the lines through the first cells of a row are put into a set
pub record PutsRow (cells : List ℕ) (row width : ℕ) (old new : Lines) : Type 0 where
  pub kept : (line : LineId) → HasName old line → HasName new line
  pub put : (col : ℕ) → col < width → HasCell cells row col → NamesBoth new row col

-- a set names the lines through the cells of the first rows
abbrev pub PutsThrough : List ℕ → Masks → Lines → ℕ → Type 0
PutsThrough cells facts lines rows = (row col : ℕ) → row < rows → col < width_of facts → HasCell cells row col
    → NamesBoth lines row col

-- in the first cells of a row, outside of some cells, only a picture's colours are left
pub record LeavesRowAlone (cells : List ℕ) (picture : Rows) (old new : Masks) (row width : ℕ) : Type 0 where
  pub same_shape : SameShape old new
  pub kept : (col : ℕ) → HasCell cells row col → cell_at new row col ≡ cell_at old row col
  pub left : (col : ℕ) → col < width → (HasCell cells row col → ⊥) → cell_at new row col ≡ 2 ^ cell_at picture row col
  pub elsewhere : (r col : ℕ) → (r ≡ row → ⊥) → cell_at new r col ≡ cell_at old r col

-- in the first rows, outside of some cells, only a picture's colours are left
pub record LeavesAlone (cells : List ℕ) (picture : Rows) (old new : Masks) (rows : ℕ) : Type 0 where
  pub same_shape : SameShape old new
  pub kept : (row col : ℕ) → HasCell cells row col → cell_at new row col ≡ cell_at old row col
  pub left : (row col : ℕ) → row < rows → col < width_of old → (HasCell cells row col → ⊥)
      → cell_at new row col ≡ 2 ^ cell_at picture row col
