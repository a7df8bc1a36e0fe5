-- Givens that move with their lines.
use Rattle.std.specs.Prelude.{◌≡◌, ℕ, ◌<◌, ◌⊎◌, List, Option, Some, None}
use Rattle.picture.specs.declared.line_id.Axis.TheVariants.{Across, Down}
use Rattle.picture.specs.declared.line_id.LineId.{LineId}
use Rattle.picture.specs.CellSet.{HasCell}
use Rattle.clues.specs.Change.{Moves, image_of, line_at}
use Rattle.edits.specs.Design.{mark_at}

-- the mark of the cell where these lines cross; 0 unless both are there
abbrev pub mark_where : List ℕ → Option LineId → Option LineId → ℕ
mark_where givens (Some row) (Some column) = mark_at givens row.at column.at
mark_where givens (Some row) None = 0
mark_where givens None column = 0

-- the mark that a cell had at its old place, 0 for a new cell; `back` moves lines to their old places
abbrev pub mark_before : List ℕ → Moves → ℕ → ℕ → ℕ
mark_before givens back i j = mark_where givens (image_of back (line_at Across i)) (image_of back (line_at Down j))

-- exactly those cells of a picture of this size are given that were given at their old places
abbrev pub AreMoved : List ℕ → List ℕ → Moves → ℕ → ℕ → Type 0
AreMoved old new back height width =
    ((i j : ℕ) → HasCell new i j → (i < height) × (j < width) × (mark_before old back i j ≡ 1))
    × ((i j : ℕ) → i < height → j < width → mark_before old back i j ≡ 1 → HasCell new i j)

-- the same for the first `row` rows and the first `col` cells of the next one
pub record AreMovedTo (old new : List ℕ) (back : Moves) (width row col : ℕ) : Type 0 where
  pub only : (i j : ℕ) → HasCell new i j → (j < width) × (mark_before old back i j ≡ 1)
  pub so_far : (i j : ℕ) → HasCell new i j → (i < row) ⊎ ((i ≡ row) × (j < col))
  pub all : (i j : ℕ) → i < row → j < width → mark_before old back i j ≡ 1 → HasCell new i j
  pub here : (j : ℕ) → j < col → mark_before old back row j ≡ 1 → HasCell new row j
