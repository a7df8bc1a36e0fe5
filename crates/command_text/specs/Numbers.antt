-- The words of a command that stand for numbers and colours.
use Rattle.std.specs.Prelude.{ℕ, ◌-◌, ◌&&◌, List, [], ◌∷◌, Option, None, Some, option_and_then, nat_le}
use Rattle.std.specs.Prelude.{◌==◌, if◌then◌else◌, length}
use Rattle.picture.specs.Numbers.{number_spelled}

-- a number of one to five digits
unfoldable pub number_of : List ℕ → Option ℕ
number_of word = if nat_le (length word) 5 then number_spelled word else None

-- a number from 1 to 256, as a place from 0
abbrev pub place_named : List ℕ → Option ℕ
place_named word = option_and_then (λ n. if nat_le 1 n && nat_le n 256 then Some (n - 1) else None) (number_of word)

-- a number up to 65535
abbrev pub sample_of : List ℕ → Option ℕ
sample_of word = option_and_then (λ n. if nat_le n 65535 then Some n else None) (number_of word)

-- a byte: `.` for the background, and `a` to `o` for 1 to 15
abbrev pub colour_of : List ℕ → Option ℕ
colour_of (b ∷ []) = if b == 46 then Some 0 else if nat_le 97 b && nat_le b 111 then Some (b - 96) else None
colour_of word = None
