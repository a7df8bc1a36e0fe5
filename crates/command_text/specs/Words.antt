-- The words of a line.
use Rattle.std.specs.Prelude.{◌≡◌, ℕ, ◌<◌, Bool, List, [], ◌∷◌, length, filter, nat_eq, Option, None, Some}
use Rattle.std.specs.Borrow.{Bor}
use Rattle.std.specs.Cmp.Lexicographic.{pointwise}
use Rattle.std.specs.List.{slice_split}
unfoldable pub use Rattle.picture.specs.Blanks.{is_blank}
pub use Rattle.picture.specs.Blanks.{is_no_blank}
pub use Rattle.picture.specs.Numbers.{has_byte}

-- words, or lines, or other texts: each by its bytes
abbrev pub Texts : Type 0
Texts = List (List ℕ)

-- the pieces between blanks that have a byte
unfoldable pub words_of : List ℕ → Texts
words_of line = filter has_byte (slice_split is_blank line)

-- the bytes are exactly this word
abbrev pub is_word : List ℕ → List ℕ → Bool
is_word bytes word = pointwise nat_eq bytes word

-- ---- the answers of functions that cut a line

-- the first word of a line and what follows it, if the line has a word
abbrev pub IsFirstWord : List ℕ → Option (Bor (List ℕ) × Bor (List ℕ)) → Type 0
IsFirstWord line None = words_of line ≡ []
IsFirstWord line (Some x) = (words_of line ≡ x.0.now ∷ words_of x.1.now) × (length x.1.now < length line)
