-- Pictures and maps as text: a letter for each cell, and a line for each row.
use Rattle.std.specs.Prelude.{ℕ, ◌+◌, List, [], ◌∷◌, ◌++◌, count_ones, map, ◌==◌, if◌then◌else◌}
use Rattle.std.specs.Int.{trailing_zeros, w16}
use Rattle.std.specs.List.{flat_map}
use Rattle.picture.specs.Rows.{Rows}
use Rattle.line_facts.specs.Masks.{Masks}

-- `.` for the background, and `a` to `o` for 1 to 15
abbrev pub letter : ℕ → ℕ
letter k = if k == 0 then 46 else 96 + k

-- a row of cells, each as the byte that shows it, and a line feed
abbrev pub shown_row : (ℕ → ℕ) → List ℕ → List ℕ
shown_row shown row = map shown row ++ 10 ∷ []

-- the rows of a picture
abbrev pub picture_text : Rows → List ℕ
picture_text rows = flat_map (shown_row letter) rows

-- the letter of the only colour in a mask, or `?`
abbrev pub mask_letter : ℕ → ℕ
mask_letter mask = if count_ones mask == 1 then letter (trailing_zeros w16 mask) else 63

-- the rows of a map
abbrev pub map_text : Masks → List ℕ
map_text masks = flat_map (shown_row mask_letter) masks
