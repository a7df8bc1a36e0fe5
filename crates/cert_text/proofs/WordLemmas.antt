-- The pieces of a text, its lines and words.
use Rattle.std.proofs.Common.{◌≡◌, ℕ, ◌<◌, cond, eqb, List, [], ◌∷◌, length, None, refl, sym, ap, ◌∙◌, arith}
use Rattle.std.specs.List.{slice_split}
use Rattle.std.proofs.lemmas.List.Splits.{length-slice_split}
use Rattle.picture.specs.Numbers.{has_byte}
use Rattle.cert_text.specs.Text.{lines_of, lines_of_pieces, three_of, words_of}

-- ---- the first line

-- a text with a line feed
pub lines_more : (text : List ℕ) (piece rest : List ℕ) → slice_split (λ b. eqb b 10) text ≡ piece ∷ slice_split (λ b. eqb b 10) rest → lines_of text ≡ piece ∷ lines_of rest
unfolding lines_of
lines_more text piece rest e = ap lines_of_pieces e ∙ two_pieces (slice_split (λ b. eqb b 10) rest) (some_piece rest)
  where
    some_piece : (bytes : List ℕ) → 0 < length (slice_split (λ b. eqb b 10) bytes)
    some_piece bytes = omega (arith, length-slice_split (λ b. eqb b 10) bytes)

    two_pieces : (pieces : List (List ℕ)) → 0 < length pieces → lines_of_pieces (piece ∷ pieces) ≡ piece ∷ lines_of_pieces pieces
    two_pieces [] some = absurd (omega (arith, some))
    two_pieces (next ∷ pieces) some = refl

pub lines_none : lines_of [] ≡ []
unfolding lines_of
lines_none = refl

-- a text without one
pub lines_last : (text : List ℕ) (piece : List ℕ) → slice_split (λ b. eqb b 10) text ≡ piece ∷ [] → 0 < length piece → lines_of text ≡ piece ∷ []
unfolding lines_of
lines_last text piece e some = ap lines_of_pieces e ∙ last_line piece some
  where
    last_line : (line : List ℕ) → 0 < length line → cond (has_byte line) (line ∷ []) [] ≡ line ∷ []
    last_line [] some = absurd (omega (arith, some))
    last_line (b ∷ line) some = refl

pub lines_empty : (text : List ℕ) (piece : List ℕ) → slice_split (λ b. eqb b 10) text ≡ piece ∷ [] → length piece ≡ 0 → lines_of text ≡ []
unfolding lines_of
lines_empty text piece e none = ap lines_of_pieces e ∙ last_line piece none
  where
    last_line : (line : List ℕ) → length line ≡ 0 → cond (has_byte line) (line ∷ []) [] ≡ []
    last_line [] none = refl
    last_line (b ∷ line) none = absurd (omega (arith, none))

pub ruleset first_lines = (lines_more, lines_none, lines_last, lines_empty)

-- ---- three words

four_words : (word first second : List ℕ) (words : List (List ℕ)) → 0 < length words → three_of (word ∷ first ∷ second ∷ words) ≡ None
four_words word first second [] some = absurd (omega (arith, some))
four_words word first second (next ∷ words) some = refl

pub more_words : (line word behind first second third last : List ℕ) → words_of line ≡ word ∷ words_of behind → words_of behind ≡ first ∷ words_of second → words_of second ≡ third ∷ words_of last
    → None ≡ three_of (words_of line)
more_words line word behind first second third last e f g =
    sym (ap three_of (e ∙ (ap (λ (ws : List (List ℕ)). word ∷ ws) f ∙ ap (λ (ws : List (List ℕ)). word ∷ first ∷ ws) g))
    ∙ four_words word first third (words_of last) (omega (arith, length-slice_split (λ b. eqb b 32) last)))
