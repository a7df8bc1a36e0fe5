-- The pieces of a text and its lines.
use Rattle.std.proofs.Common.{◌≡◌, ℕ, ◌<◌, true, false, cond, not, eqb, List, [], ◌∷◌, length, Some, None, refl, ap, ◌∙◌, arith, filter}
use Rattle.std.specs.List.{slice_split}
use Rattle.std.specs.Str.Lines.{strip_carriage_return}
use Rattle.non_text.specs.Bytes.{is_empty}
use Rattle.non_text.specs.Lines.{lines_of_pieces, all_lines, is_comment, lines_of, keyword_of, section_of, has_keyword, at_keyword}
use Rattle.std.proofs.lemmas.List.Splits.{length-slice_split}

-- ---- the first line

-- a text with a line feed
pub all_lines_more : (text : List ℕ) (piece rest : List ℕ) → slice_split (λ b. eqb b 10) text ≡ piece ∷ slice_split (λ b. eqb b 10) rest → all_lines text ≡ strip_carriage_return piece ∷ all_lines rest
unfolding all_lines
all_lines_more text piece rest e = ap lines_of_pieces e ∙ two_pieces (slice_split (λ b. eqb b 10) rest) (some_piece rest)
  where
    some_piece : (bytes : List ℕ) → 0 < length (slice_split (λ b. eqb b 10) bytes)
    some_piece bytes = omega (arith, length-slice_split (λ b. eqb b 10) bytes)

    two_pieces : (pieces : List (List ℕ)) → 0 < length pieces → lines_of_pieces (piece ∷ pieces) ≡ strip_carriage_return piece ∷ lines_of_pieces pieces
    two_pieces [] some = absurd (omega (arith, some))
    two_pieces (next ∷ pieces) some = refl

pub all_lines_none : all_lines [] ≡ []
unfolding all_lines
all_lines_none = refl

-- a text without one
pub all_lines_last : (text : List ℕ) (piece : List ℕ) → slice_split (λ b. eqb b 10) text ≡ piece ∷ [] → 0 < length (strip_carriage_return piece) → all_lines text ≡ strip_carriage_return piece ∷ []
unfolding all_lines
all_lines_last text piece e some = ap lines_of_pieces e ∙ last_line (strip_carriage_return piece) some
  where
    last_line : (line : List ℕ) → 0 < length line → cond (is_empty line) [] (line ∷ []) ≡ line ∷ []
    last_line [] some = absurd (omega (arith, some))
    last_line (b ∷ line) some = refl

pub all_lines_empty : (text : List ℕ) (piece : List ℕ) → slice_split (λ b. eqb b 10) text ≡ piece ∷ [] → length (strip_carriage_return piece) ≡ 0 → all_lines text ≡ []
unfolding all_lines
all_lines_empty text piece e none = ap lines_of_pieces e ∙ last_line (strip_carriage_return piece) none
  where
    last_line : (line : List ℕ) → length line ≡ 0 → cond (is_empty line) [] (line ∷ []) ≡ []
    last_line [] none = refl
    last_line (b ∷ line) none = absurd (omega (arith, none))

pub ruleset first_lines = (all_lines_more, all_lines_none, all_lines_last, all_lines_empty)

-- ---- without comments

pub lines_of_shown : (text : List ℕ) (line rest : List ℕ) → all_lines text ≡ line ∷ all_lines rest → is_comment line ≡ false → lines_of text ≡ line ∷ lines_of rest
unfolding lines_of
lines_of_shown text line rest e shown = ap (filter (λ line. not (is_comment line))) e
    ∙ ap (λ t. cond (not t) (line ∷ filter (λ line. not (is_comment line)) (all_lines rest)) (filter (λ line. not (is_comment line)) (all_lines rest))) shown

pub lines_of_comment : (text : List ℕ) (line rest : List ℕ) → all_lines text ≡ line ∷ all_lines rest → is_comment line ≡ true → lines_of text ≡ lines_of rest
unfolding lines_of
lines_of_comment text line rest e shown = ap (filter (λ line. not (is_comment line))) e
    ∙ ap (λ t. cond (not t) (line ∷ filter (λ line. not (is_comment line)) (all_lines rest)) (filter (λ line. not (is_comment line)) (all_lines rest))) shown

pub lines_of_none : (text : List ℕ) → all_lines text ≡ [] → lines_of text ≡ []
unfolding lines_of
lines_of_none text e = ap (filter (λ line. not (is_comment line))) e

pub ruleset shown_lines = (lines_of_shown, lines_of_comment, lines_of_none)

-- ---- sections

is_empty_length : (bytes : List ℕ) → length bytes ≡ 0 → is_empty bytes ≡ true
is_empty_length [] e = refl
is_empty_length (b ∷ bytes) e = absurd (omega (arith, e))

has_length : (bytes : List ℕ) → 0 < length bytes → is_empty bytes ≡ false
has_length [] some = absurd (omega (arith, some))
has_length (b ∷ bytes) some = refl

pub section_more : (line : List ℕ) (lines : List (List ℕ)) → length (keyword_of line) ≡ 0 → section_of (line ∷ lines) ≡ line ∷ section_of lines
unfolding section_of
section_more line lines e = ap (λ t. cond (not t) [] (line ∷ section_of lines)) (is_empty_length _ e)

pub section_end : (line : List ℕ) (lines : List (List ℕ)) → 0 < length (keyword_of line) → section_of (line ∷ lines) ≡ []
unfolding section_of
section_end line lines e = ap (λ t. cond (not t) [] (line ∷ section_of lines)) (has_length _ e)

pub section_none : section_of [] ≡ []
unfolding section_of
section_none = refl

pub ruleset section_steps = (section_more, section_end, section_none)

-- ---- the first line with a keyword

pub at_keyword_found : (word line : List ℕ) (lines : List (List ℕ)) → has_keyword word line ≡ true → at_keyword word (line ∷ lines) ≡ Some (line, lines)
unfolding at_keyword
at_keyword_found word line lines e = ap (λ t. cond t (Some (line, lines)) (at_keyword word lines)) e

pub at_keyword_later : (word line : List ℕ) (lines : List (List ℕ)) → has_keyword word line ≡ false → at_keyword word (line ∷ lines) ≡ at_keyword word lines
unfolding at_keyword
at_keyword_later word line lines e = ap (λ t. cond t (Some (line, lines)) (at_keyword word lines)) e

pub at_keyword_none : (word : List ℕ) → at_keyword word [] ≡ None
unfolding at_keyword
at_keyword_none word = refl

pub ruleset finding = (at_keyword_found, at_keyword_later, at_keyword_none)
