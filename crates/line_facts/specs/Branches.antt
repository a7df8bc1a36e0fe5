-- The branches of a cell: facts in which it is held to one colour each.
use Rattle.std.specs.Prelude.{ℕ, ◌^◌, ◌==◌, List, filter, map}
use Rattle.std.specs.Int.{bit_at}
use Rattle.std.specs.List.{range_with_len}
use Rattle.line_facts.specs.Masks.{Masks}
use Rattle.picture.specs.Rows.{with_cell}

-- the colours of a mask, in ascending order
unfoldable pub colours_of : ℕ → List ℕ
colours_of mask = filter (λ k. bit_at mask k == 1) (range_with_len 0 16)

-- the facts with a cell held to each of some colours in turn
abbrev pub held : Masks → ℕ → ℕ → List ℕ → List Masks
held facts row col colours = map (λ (k : ℕ). with_cell facts row col (2 ^ k)) colours

-- one branch of a cell for each colour of a mask
abbrev pub branches : Masks → ℕ → ℕ → ℕ → List Masks
branches facts row col mask = held facts row col (colours_of mask)
