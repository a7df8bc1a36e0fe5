-- Which colours the cells of a picture have.
use Rattle.std.specs.Prelude.{◌==◌, ◌||◌, ℕ, Bool, not}
use Rattle.std.specs.List.{list_any}
use Rattle.picture.specs.Rows.{Rows}

-- some cell has the colour
abbrev pub has_colour : ℕ → Rows → Bool
has_colour k rows = list_any (λ row. list_any (λ cell. cell == k) row) rows

-- some cell has another colour than the background
abbrev pub is_painted : Rows → Bool
is_painted rows = list_any (λ row. list_any (λ cell. not (cell == 0)) row) rows

-- a puzzle shows the background, and the colours that cells have
abbrev pub is_shown : ℕ → Rows → Bool
is_shown k rows = (k == 0) || has_colour k rows
