-- A set of cells as a mask for each row: bit c of the mask at r stands for the cell at row r and column c.
use Rattle.std.specs.Prelude.{◌≡◌, ℕ, ◌⊎◌, ◌↔◌, ◌<◌, ◌^◌, List, length, IsBitSet, slice_index, count_ones, replicate}
use Rattle.std.specs.List.{sum_by}
use Rattle.picture.specs.declared.picture.TheConstants.{MAX_SIDE}

-- the table of a set: a mask for each row that a picture can have, and in it a bit for each column
pub record IsCellSet (cells : List ℕ) : Type 0 where
  pub rows : length cells ≡ MAX_SIDE
  pub within : (row : ℕ) → slice_index cells row < 2 ^ MAX_SIDE

abbrev pub HasCell : List ℕ → ℕ → ℕ → Type 0
HasCell cells row col = IsBitSet (slice_index cells row) col

-- new has the cells of old and this one
abbrev pub PutsCell : List ℕ → List ℕ → ℕ → ℕ → Type 0
PutsCell old new row col = (r c : ℕ) → HasCell new r c ↔ (HasCell old r c ⊎ ((r ≡ row) × (c ≡ col)))

-- new has the cells of old except this one
abbrev pub TakesOutCell : List ℕ → List ℕ → ℕ → ℕ → Type 0
TakesOutCell old new row col = (r c : ℕ) → HasCell new r c ↔ (HasCell old r c × ¬ ((r ≡ row) × (c ≡ col)))

-- how many cells there are
abbrev pub cell_count : List ℕ → ℕ
cell_count cells = sum_by count_ones cells

-- the set without a cell
unfoldable pub no_cells : List ℕ
no_cells = replicate MAX_SIDE 0
