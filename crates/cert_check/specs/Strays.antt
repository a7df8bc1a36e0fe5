-- How many cells have a colour left other than the picture's.
use Rattle.std.specs.Prelude.{ℕ, zero, suc, ◌+◌, ◌^◌, ◌==◌, if◌then◌else◌, bit_and, length}
use Rattle.std.specs.Int.{bit_not, w16}
use Rattle.line_facts.specs.Masks.{Masks}
use Rattle.picture.specs.Rows.{cell_at, width_of, Rows}

-- 1 where a mask has a colour other than this one
abbrev pub stray : ℕ → ℕ → ℕ
stray mask colour = if bit_and mask (bit_not w16 (2 ^ colour)) == 0 then 0 else 1

-- the sum of the first n values
abbrev pub tally : (ℕ → ℕ) → ℕ → ℕ
tally f zero = 0
tally f (suc n) = tally f n + f n

-- the first cells of a row
abbrev pub row_strays : Rows → Masks → ℕ → ℕ → ℕ
row_strays picture facts row width = tally (λ col. stray (cell_at facts row col) (cell_at picture row col)) width

-- the first rows
abbrev pub strays_above : Rows → Masks → ℕ → ℕ
strays_above picture facts height = tally (λ row. row_strays picture facts row (width_of picture)) height

abbrev pub strays_of : Rows → Masks → ℕ
strays_of picture facts = strays_above picture facts (length picture)
