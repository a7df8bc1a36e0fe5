-- Numbers as their digits spell them.
use Rattle.std.specs.Prelude.{ℕ, ◌+◌, ◌-◌, ◌*◌, Bool, true, false, ◌&&◌, List, [], ◌∷◌, length, Option, None, Some}
use Rattle.std.specs.Prelude.{nat_le, if◌then◌else◌}
use Rattle.std.specs.Str.{all_ascii_digits}

abbrev pub has_byte : List ℕ → Bool
has_byte [] = false
has_byte (b ∷ bytes) = true

-- the value of digits that follow a number
unfoldable pub value_after : ℕ → List ℕ → ℕ
value_after n [] = n
value_after n (d ∷ digits) = value_after (n * 10 + (d - 48)) digits

-- the value of digits alone, however many there are
unfoldable pub number_spelled : List ℕ → Option ℕ
number_spelled bytes = if has_byte bytes && all_ascii_digits bytes then Some (value_after 0 bytes) else None

-- the value of digits alone, at most `most` of them
abbrev pub short_number : ℕ → List ℕ → Option ℕ
short_number most bytes = if nat_le (length bytes) most then number_spelled bytes else None
