-- Numbers with white space right after them.
use Rattle.std.specs.Prelude.{◌≡◌, ◌≤◌, ℕ, ◌+◌, ◌-◌, Bool, true, false, List, [], ◌∷◌, Some, length, drop}
use Rattle.ppm_text.specs.Tokens.{tokens_from, without_comments, is_space}
use Rattle.ppm_text.specs.Numerals.{begins_number, number_on}

-- the first byte is white space
abbrev pub begins_white : List ℕ → Bool
begins_white [] = false
begins_white (b ∷ rest) = is_space b

-- The text ends with the rest, and if both begin within a token, both have the same tokens after it.
pub record IsBehind (text rest : List ℕ) : Type 0 where
  pub within : length rest ≤ length text
  pub tail : rest ≡ drop (length text - length rest) text
  pub tokens : (place : ℕ) → tokens_from true (place + (length text - length rest)) (without_comments false rest)
      ≡ tokens_from true place (without_comments false text)

-- The text begins with digits that spell the number, and a byte of white space follows them: `count` bytes in all.
pub record IsClosedNumber (text : List ℕ) (value count : ℕ) : Type 0 where
  pub within : count ≤ length text
  pub begins : begins_number text ≡ true
  pub number : number_on (Some 0) text ≡ Some value
  pub rest : (place : ℕ) → tokens_from true place (without_comments false text)
      ≡ tokens_from false (place + count) (without_comments false (drop count text))
