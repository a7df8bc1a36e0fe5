-- Bytes of a line: blanks, digits, words and numbers.
use Rattle.std.specs.Prelude.{ℕ, Bool, true, false, ◌&&◌, List, [], ◌∷◌, take, drop, nat_le, if◌then◌else◌}
use Rattle.std.specs.List.{list_all, position_or_len}
unfoldable pub use Rattle.picture.specs.Blanks.{is_blank}
pub use Rattle.picture.specs.Blanks.{is_no_blank}

abbrev pub is_lower : ℕ → Bool
is_lower b = nat_le 97 b && nat_le b 122

abbrev pub is_empty : {X : Type 0} → List X → Bool
is_empty [] = true
is_empty (x ∷ xs) = false

-- the bytes without the blanks at the front
unfoldable pub past_blanks : List ℕ → List ℕ
past_blanks bytes = drop (position_or_len is_no_blank bytes) bytes

-- the bytes without the blanks at the end
unfoldable pub before_blanks : List ℕ → List ℕ
before_blanks [] = []
before_blanks (b ∷ bytes) = if is_blank b && list_all is_blank bytes then [] else b ∷ before_blanks bytes

-- the bytes without the blanks at both ends
abbrev pub trimmed : List ℕ → List ℕ
trimmed bytes = before_blanks (past_blanks bytes)

-- the bytes up to the first blank
unfoldable pub first_word : List ℕ → List ℕ
first_word bytes = take (position_or_len is_blank bytes) bytes

-- what follows that word
unfoldable pub past_word : List ℕ → List ℕ
past_word bytes = drop (position_or_len is_blank bytes) bytes
