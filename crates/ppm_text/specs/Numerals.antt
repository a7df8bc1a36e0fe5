-- Numbers of any length, read up to a cap that is above each limit.
use Rattle.std.specs.Prelude.{ℕ, ◌+◌, ◌-◌, ◌*◌, min, Bool, false, if◌then◌else◌, List, [], ◌∷◌, length, Option, Some}
use Rattle.std.specs.Prelude.{None, Result, Ok, Err}
use Rattle.std.specs.Char.{is_ascii_digit}
use Rattle.std.specs.Str.{all_ascii_digits}
use Rattle.std.specs.Str.Parse.{digits_value}
use Rattle.picture.specs.Readers.{◌>>=◌, Reads}
use Rattle.ppm_text.specs.declared.fault.PpmFault.{PpmFault}
use Rattle.ppm_text.specs.declared.fault.PpmFault.TheVariants.{Truncated, BadNumber}
use Rattle.ppm_text.specs.declared.scanner.Numeral.{Numeral}
use Rattle.ppm_text.specs.Tokens.{Token, is_gap, tokens_at}

-- the value of the digits, or the cap if it is above, and nothing where other bytes are among them
abbrev pub capped : List ℕ → Option ℕ
capped bytes = if all_ascii_digits bytes then Some (min (digits_value 10 bytes) 65536) else None

-- the capped number with one more byte after it
abbrev pub with_byte : Option ℕ → ℕ → Option ℕ
with_byte None b = None
with_byte (Some n) b = if is_ascii_digit b then Some (min (n * 10 + (b - 48)) 65536) else None

-- the first byte is a digit
abbrev pub begins_number : List ℕ → Bool
begins_number [] = false
begins_number (b ∷ rest) = is_ascii_digit b

-- a number with the bytes up to the next gap appended as digits
abbrev pub number_on : Option ℕ → List ℕ → Option ℕ
number_on number [] = number
number_on number (b ∷ rest) = if is_gap b then number else number_on (with_byte number b) rest

-- the next token as a number
unfoldable pub numeral_at : ℕ → List Token → Result (Numeral × List Token) PpmFault
numeral_at end [] = Err (Truncated end)
numeral_at end (token ∷ rest) = if all_ascii_digits token.bytes
    then Ok (record { place = token.place; value = digits_value 10 token.bytes }, rest) else Err (BadNumber token.place)

-- the number where it is below the cap, and else the cap
abbrev pub under_cap : Numeral × List Token → Numeral × List Token
under_cap read = (record { place = read.0.place; value = min read.0.value 65536 }, read.1)

-- the next token as a number up to the cap
abbrev pub capped_at : ℕ → List Token → Result (Numeral × List Token) PpmFault
capped_at end tokens = numeral_at end tokens >>= λ read. Ok (under_cap read)

-- the next number of a text from a place on is read, with a place after its token
abbrev pub ReadsNumber : List ℕ → ℕ → Result (Numeral × ℕ) PpmFault → Type 0
ReadsNumber bytes from result =
    Reads (λ x. (x.0, tokens_at bytes x.1)) result (capped_at (length bytes) (tokens_at bytes from))
