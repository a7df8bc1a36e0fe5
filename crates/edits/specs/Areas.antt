-- Where an edit can change colours, and when two lines are alike.
use Rattle.std.specs.Prelude.{◌≡◌, ℕ, ◌<◌, ◌≤◌, ◌⊎◌, length}
use Rattle.picture.specs.declared.line_id.Axis.{Axis}
use Rattle.picture.specs.Rows.{width_of, cell_at, Rows}
use Rattle.edits.specs.declared.edit.Edit.{Edit}
use Rattle.edits.specs.Design.{Design}
use Rattle.edits.specs.Edit.{colour_after}
use Rattle.edits.specs.Note.{place_on, cells_along}

-- the edit leaves the colour of the cell
abbrev pub Leaves : Edit → Rows → ℕ → ℕ → Type 0
Leaves e rows i j = colour_after e i j (cell_at rows i j) ≡ cell_at rows i j

-- the rows from `top` to before `below` and the columns from `left` to before `beyond` have all cells that change
pub record IsArea (e : Edit) (rows : Rows) (top below left beyond : ℕ) : Type 0 where
  pub rows_fit : below ≤ length rows
  pub columns_fit : beyond ≤ width_of rows
  pub rows_ordered : top ≤ below
  pub columns_ordered : left ≤ beyond
  pub other_rows : (i j : ℕ) → i < length rows → j < width_of rows → (i < top) ⊎ (below ≤ i) → Leaves e rows i j
  pub other_columns : (i j : ℕ) → i < length rows → j < width_of rows → (j < left) ⊎ (beyond ≤ j) → Leaves e rows i j

-- two lines of an axis have the same number at a position of a grid
abbrev pub SameAt : Axis → ℕ → ℕ → Rows → ℕ → Type 0
SameAt axis first second rows k =
    cell_at rows (place_on axis first k).0 (place_on axis first k).1
    ≡ cell_at rows (place_on axis second k).0 (place_on axis second k).1

-- they have the same cell there, and the same mark
abbrev pub AreAlikeAt : Axis → ℕ → ℕ → Design → ℕ → Type 0
AreAlikeAt axis first second d k = SameAt axis first second d.rows k × SameAt axis first second d.marks k

-- two lines of an axis have the same cells, and the same marks
abbrev pub AreAlike : Axis → ℕ → ℕ → Design → Type 0
AreAlike axis first second d = (k : ℕ) → k < cells_along axis d.rows → AreAlikeAt axis first second d k
