-- Colours by their letters.
use Rattle.std.specs.Prelude.{ℕ, ◌+◌, ◌-◌, ◌^◌, ◌&&◌, bit_and, List, [], ◌∷◌, Option, None, Some, nat_le}
use Rattle.std.specs.Prelude.{◌==◌, if◌then◌else◌}
use Rattle.std.specs.List.{flat_map, range_with_len}
use Rattle.picture.specs.Numbers.{has_byte}

-- `.` for the background, and `a` to `o` for 1 to 15
abbrev pub colour_at : ℕ → Option ℕ
colour_at b = if b == 46 then Some 0 else if nat_le 97 b && nat_le b 111 then Some (b - 96) else None

-- one colour more, if it is not below the least that may follow
abbrev pub with_colour : ℕ → ℕ → Option ℕ → (ℕ → ℕ → Option ℕ) → Option ℕ
with_colour colours least None rest = None
with_colour colours least (Some k) rest = if nat_le least k then rest (colours + 2 ^ k) (k + 1) else None

-- the mask of the colours so far and of further letters, in ascending order from a least colour on
unfoldable pub colours_behind : ℕ → ℕ → List ℕ → Option ℕ
colours_behind colours least [] = Some colours
colours_behind colours least (b ∷ bytes) =
    with_colour colours least (colour_at b) (λ more next. colours_behind more next bytes)

-- the mask of the colours that a word names by letters in ascending order, at least one
abbrev pub colours_named : List ℕ → Option ℕ
colours_named word = if has_byte word then colours_behind 0 0 word else None

abbrev pub letter : ℕ → ℕ
letter k = if k == 0 then 46 else 96 + k

-- the letter of a colour, if a mask has it
abbrev pub letter_where : ℕ → ℕ → List ℕ
letter_where colours k = if bit_and colours (2 ^ k) == 0 then [] else letter k ∷ []

abbrev pub letters_text : ℕ → List ℕ
letters_text colours = flat_map (letter_where colours) (range_with_len 0 16)
