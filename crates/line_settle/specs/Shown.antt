-- Lines whose cells show a colour: each has one colour left.
use Rattle.std.specs.Prelude.{ℕ, List, map}
use Rattle.std.specs.List.{All}
use Rattle.std.specs.Int.{trailing_zeros, w16}
use Rattle.line_facts.specs.Masks.{IsOnly}

-- the lowest colour left in a cell
abbrev pub lowest_colour : ℕ → ℕ
lowest_colour mask = trailing_zeros w16 mask

-- a cell with one colour left, and a line of such cells
abbrev pub IsShown : ℕ → Type 0
IsShown mask = IsOnly mask (lowest_colour mask)

abbrev pub AreShown : List ℕ → Type 0
AreShown left = All IsShown left

-- the lowest colour of each cell, which is all that such a line can have
abbrev pub lowest_colours : List ℕ → List ℕ
lowest_colours left = map lowest_colour left
