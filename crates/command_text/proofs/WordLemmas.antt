-- The first word of a line, past its blanks.
use Rattle.std.proofs.Common.{◌≡◌, ℕ, ◌+◌, ◌-◌, ◌<◌, zero, suc, true, false, cond, List, [], ◌∷◌, ◌++◌, length, get_or, take, drop, Some, None, refl, sym, ap, ◌∙◌, arith, filter, position}
use Rattle.std.specs.List.{slice_split, All}
use Rattle.std.proofs.lemmas.Bool.{both_ways, not-false, not-true}
use Rattle.std.proofs.lemmas.List.{append-nil, get_or-drop, length-drop, length-take, take-append-drop, take_rest}
use Rattle.std.proofs.lemmas.List.Elements.{All-head, All-tail}
use Rattle.std.proofs.lemmas.List.Quantifiers.{position-Some}
use Rattle.std.proofs.lemmas.List.Splits.{slice_split-cons_yes}
use Rattle.picture.proofs.SplitLaws.{none_before, none_passes, split_found, split_none}
use Rattle.command_text.specs.Words.{has_byte, is_blank, is_no_blank, words_of}

-- blanks at the beginning make no word
past_blanks : (front rest : List ℕ) → All (λ b. is_no_blank b ≡ false) front → words_of (front ++ rest) ≡ words_of rest
unfolding words_of
past_blanks [] rest all = refl
past_blanks (b ∷ front) rest all =
    ap (filter has_byte) (slice_split-cons_yes is_blank b (front ++ rest) (not-false _ (All-head (λ c. is_no_blank c ≡ false) b front all)))
    ∙ past_blanks front rest (All-tail (λ c. is_no_blank c ≡ false) b front all)

none_in_nothing : words_of [] ≡ []
unfolding words_of
none_in_nothing = refl

pub words_none : (line : List ℕ) → position is_no_blank line ≡ None → words_of line ≡ []
words_none line e = ap words_of (sym (append-nil line)) ∙ past_blanks line [] (none_passes is_no_blank line e) ∙ none_in_nothing

-- ---- after the blanks

some_byte : (rest : List ℕ) (end : ℕ) → 0 < length rest → is_blank (get_or rest 0 0) ≡ false → is_blank (get_or rest end 0) ≡ true → has_byte (take end rest) ≡ true
some_byte [] end some other blank = absurd (omega (arith, some))
some_byte (b ∷ rest) zero some other blank = absurd (both_ways (is_blank b) other blank)
some_byte (b ∷ rest) (suc end) some other blank = refl

any_byte : (rest : List ℕ) → 0 < length rest → has_byte rest ≡ true
any_byte [] some = absurd (omega (arith, some))
any_byte (b ∷ rest) some = refl

module _ (line rest : List ℕ) (start : ℕ) (e : position is_no_blank line ≡ Some start) (is : rest ≡ take (length line - start) (drop start line)) where
  rest_is : rest ≡ drop start line
  rest_is = is ∙ take_rest line start

  some_rest : 0 < length rest
  some_rest = omega (arith, ap length rest_is, length-drop start line, (position-Some is_no_blank line start 0 e).0)

  begins : is_blank (get_or rest 0 0) ≡ false
  begins = not-true _ (rw (rest_is, get_or-drop start line 0 0, let at : start + 0 ≡ start = omega arith in at) (position-Some is_no_blank line start 0 e).1)

  behind_blanks : words_of line ≡ words_of rest
  behind_blanks = ap words_of (sym (take-append-drop start line)) ∙ past_blanks (take start line) (drop start line) (none_before is_no_blank line start e) ∙ ap words_of (sym rest_is)

  pub word_last : position is_blank rest ≡ None → words_of line ≡ rest ∷ words_of []
  unfolding words_of
  word_last none = behind_blanks ∙ ap (filter has_byte) (split_none is_blank rest none) ∙ ap (λ t. cond t (rest ∷ []) []) (any_byte rest some_rest)

  pub word_more : (end : ℕ) → position is_blank rest ≡ Some end → words_of line ≡ take end rest ∷ words_of (take (length rest - (end + 1)) (drop (end + 1) rest))
  unfolding words_of
  word_more end found =
      let behind = slice_split is_blank (take (length rest - (end + 1)) (drop (end + 1) rest)) in
      behind_blanks ∙ ap (filter has_byte) (split_found is_blank rest end found)
      ∙ ap (λ t. cond t (take end rest ∷ filter has_byte behind) (filter has_byte behind)) (some_byte rest end some_rest begins (position-Some is_blank rest end 0 found).1)

  pub some_line : 0 < length line
  some_line = omega (arith, (position-Some is_no_blank line start 0 e).0)

  pub behind_shorter : (end : ℕ) → length (take (length rest - (end + 1)) (drop (end + 1) rest)) < length line
  behind_shorter end = omega (arith, length-take (length rest - (end + 1)) (drop (end + 1) rest), length-drop (end + 1) rest, ap length rest_is, length-drop start line, some_rest)
