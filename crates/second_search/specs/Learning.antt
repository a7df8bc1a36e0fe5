-- The cells outside of a part, which are given where the part is decided by lemmas.
use Rattle.std.specs.Prelude.{◌≡◌, ℕ, ◌<◌, ◌⊎◌, ◌↔◌, List, length}
use Rattle.picture.specs.CellSet.{HasCell}
use Rattle.picture.specs.Rows.{width_of, Rows}

-- a cell of the first rows and columns that is not among some cells
abbrev pub IsOff : List ℕ → ℕ → ℕ → ℕ → ℕ → Type 0
IsOff cells rows width row col = (row < rows) × (col < width) × (HasCell cells row col → ⊥)

-- a set has exactly the cells of the first rows and columns that are not among some cells
abbrev pub HasOff : List ℕ → ℕ → ℕ → List ℕ → Type 0
HasOff cells rows width outside = (row col : ℕ) → HasCell outside row col ↔ IsOff cells rows width row col

-- a set has exactly the cells of a picture that are not among some cells
abbrev pub IsOutside : List ℕ → Rows → List ℕ → Type 0
IsOutside cells picture outside = HasOff cells (length picture) (width_of picture) outside

-- the first cells of a row that are not among some cells are put into a set
abbrev pub PutsOutside : List ℕ → ℕ → ℕ → List ℕ → List ℕ → Type 0
PutsOutside cells row width old new = (r c : ℕ)
    → HasCell new r c ↔ (HasCell old r c ⊎ ((r ≡ row) × (c < width) × (HasCell cells r c → ⊥)))
