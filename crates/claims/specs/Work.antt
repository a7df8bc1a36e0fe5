-- How many lines a verdict evaluates at most.
use Rattle.std.specs.Prelude.{ℕ, ◌+◌, ◌*◌, length}
use Rattle.line_facts.specs.Masks.{Masks}
use Rattle.picture.specs.Rows.{width_of}
use Rattle.live_audit.specs.Bench.{Seen}

-- how many lines a map has, and how many cells
abbrev pub lines_in : Masks → ℕ
lines_in map = length map + width_of map

abbrev pub cells_in : Masks → ℕ
cells_in map = length map * width_of map

-- Under an allowance of splits, for each part of the map: the map's lines and sixteen colours
-- for each of its cells, counted once, and sixteen times more for each of the splits.
abbrev pub most_evaluations : Seen → ℕ → ℕ
most_evaluations s splits =
    length s.kept * ((1 + 16 * splits) * (lines_in s.book.facts + 16 * cells_in s.book.facts))
