-- Sets of small numbers, as the bits of one number.
use Rattle.std.specs.Prelude.{ℕ, Bool, ◌==◌}
use Rattle.std.specs.Int.{bit_at}

-- i is in a set where bit i is set
unfoldable pub has : ℕ → ℕ → Bool
has set i = bit_at set i == 1
