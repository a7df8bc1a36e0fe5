-- How much is left to do while lines wait: it bounds how often lines are evaluated.
use Rattle.std.specs.Prelude.{ℕ, zero, suc, ◌+◌, length}
use Rattle.line_facts.specs.Masks.{Masks}
use Rattle.picture.specs.LineSet.{Lines, name_count}
use Rattle.picture.specs.Rows.{width_of, cell_at}

abbrev pub sum_to : (ℕ → ℕ) → ℕ → ℕ
sum_to f zero = 0
sum_to f (suc n) = sum_to f n + f n

-- the masks of all cells, added up
unfoldable pub weight : ℕ → ℕ → Masks → ℕ
weight height width facts = sum_to (λ i. sum_to (λ j. cell_at facts i j) width) height

-- the masks of all cells, and the lines that wait
abbrev pub left_to_do : Masks → Lines → ℕ
left_to_do facts waiting = weight (length facts) (width_of facts) facts + name_count waiting
