-- The lines of a text, and what kinds of lines there are.
use Rattle.std.specs.Prelude.{ℕ, Bool, false, not, List, [], ◌∷◌, Option, None, Some, filter, ◌==◌, nat_eq}
use Rattle.std.specs.Prelude.{if◌then◌else◌}
use Rattle.std.specs.List.{slice_split}
use Rattle.std.specs.Str.Lines.{strip_carriage_return}
use Rattle.std.specs.Cmp.Lexicographic.{pointwise}
use Rattle.non_text.specs.Bytes.{is_lower, is_empty, past_blanks, first_word, past_word, trimmed}

-- the lines of the pieces between line feeds, each without a carriage
-- return at its end: the last piece only if a byte of it is left then
abbrev pub lines_of_pieces : List (List ℕ) → List (List ℕ)
lines_of_pieces [] = []
lines_of_pieces (piece ∷ []) = if is_empty (strip_carriage_return piece) then [] else strip_carriage_return piece ∷ []
lines_of_pieces (piece ∷ next ∷ pieces) = strip_carriage_return piece ∷ lines_of_pieces (next ∷ pieces)

-- the lines of a text
unfoldable pub all_lines : List ℕ → List (List ℕ)
all_lines text = lines_of_pieces (slice_split (λ b. b == 10) text)

-- the line has nothing but blanks
unfoldable pub is_blank_line : List ℕ → Bool
is_blank_line line = is_empty (past_blanks line)

abbrev pub begins_comment : List ℕ → Bool
begins_comment [] = false
begins_comment (b ∷ bytes) = b == 35

-- the first byte after leading blanks is `#`
unfoldable pub is_comment : List ℕ → Bool
is_comment line = begins_comment (past_blanks line)

-- the lines of a text but for the comments
unfoldable pub lines_of : List ℕ → List (List ℕ)
lines_of text = filter (λ line. not (is_comment line)) (all_lines text)

abbrev pub word_at : List ℕ → List ℕ
word_at [] = []
word_at (b ∷ bytes) = if is_lower b then first_word (b ∷ bytes) else []

-- the keyword of a line whose first byte after leading blanks is a lower-case letter:
-- the run of bytes from there up to the next blank. Other lines have none
unfoldable pub keyword_of : List ℕ → List ℕ
keyword_of line = word_at (past_blanks line)

-- what follows the keyword, without the blanks at both ends
unfoldable pub value_of : List ℕ → List ℕ
value_of line = trimmed (past_word (past_blanks line))

abbrev pub is_keyword_line : List ℕ → Bool
is_keyword_line line = not (is_empty (keyword_of line))

-- the line's keyword is this one
abbrev pub has_keyword : List ℕ → List ℕ → Bool
has_keyword keyword line = pointwise nat_eq (keyword_of line) keyword

-- the first line with a keyword, and the lines after it
unfoldable pub at_keyword : List ℕ → List (List ℕ) → Option (List ℕ × List (List ℕ))
at_keyword keyword [] = None
at_keyword keyword (line ∷ lines) = if has_keyword keyword line then Some (line, lines) else at_keyword keyword lines

-- the lines up to the next keyword line
unfoldable pub section_of : List (List ℕ) → List (List ℕ)
section_of [] = []
section_of (line ∷ lines) = if is_keyword_line line then [] else line ∷ section_of lines
