-- Blanks at the ends of bytes, and the first word.
use Rattle.std.proofs.Common.{◌≡◌, ℕ, suc, ◌+◌, ◌-◌, ◌<◌, ◌≤◌, Bool, true, false, cond, not, List, [], ◌∷◌, ◌++◌, length, get_or, take, drop, Some, None, refl, sym, ap, ◌∙◌, arith, ◌&&◌, position}
use Rattle.std.specs.List.{list_all, position_or_len}
use Rattle.std.proofs.lemmas.Bool.{and_right, ltb-false}
use Rattle.std.proofs.lemmas.List.{drop_all, take_more, take_rest, take_all}
use Rattle.std.proofs.lemmas.Option.{cond_some}
use Rattle.non_text.specs.Bytes.{is_blank, is_no_blank, past_blanks, before_blanks, first_word, past_word}

-- ---- the first place

no_place : (t : Bool) (n : ℕ) → cond t (Some n) None ≡ None → t ≡ false
no_place true n e = cc
no_place false n e = refl

none_found : (p : ℕ → Bool) (bytes : List ℕ) → position p bytes ≡ None → length bytes ≤ position_or_len p bytes
none_found p bytes e = ltb-false _ _ (no_place _ _ e)

pub past_blanks_found : (bytes : List ℕ) (start : ℕ) → position is_no_blank bytes ≡ Some start → past_blanks bytes ≡ take (length bytes - start) (drop start bytes)
unfolding past_blanks
past_blanks_found bytes start e = ap (λ n. drop n bytes) (cond_some _ _ _ e).1 ∙ sym (take_rest bytes start)

pub past_blanks_all : (bytes : List ℕ) → position is_no_blank bytes ≡ None → past_blanks bytes ≡ []
unfolding past_blanks
past_blanks_all bytes e = drop_all (position_or_len is_no_blank bytes) bytes (none_found is_no_blank bytes e)

pub word_found : (bytes : List ℕ) (end : ℕ) → position is_blank bytes ≡ Some end → first_word bytes ≡ take end bytes
unfolding first_word
word_found bytes end e = ap (λ n. take n bytes) (cond_some _ _ _ e).1

pub behind_found : (bytes : List ℕ) (end : ℕ) → position is_blank bytes ≡ Some end → past_word bytes ≡ drop end bytes
unfolding past_word
behind_found bytes end e = ap (λ n. drop n bytes) (cond_some _ _ _ e).1

pub word_all : (bytes : List ℕ) → position is_blank bytes ≡ None → first_word bytes ≡ bytes
unfolding first_word
word_all bytes e = take_all (position_or_len is_blank bytes) bytes (none_found is_blank bytes e)

pub behind_all : (bytes : List ℕ) → position is_blank bytes ≡ None → past_word bytes ≡ []
unfolding past_word
behind_all bytes e = drop_all (position_or_len is_blank bytes) bytes (none_found is_blank bytes e)

pub ruleset fronts = (past_blanks_found, past_blanks_all)

pub ruleset words = (word_found, behind_found, word_all, behind_all)

-- ---- one byte more

pub past_blanks_blank : (b : ℕ) (bytes : List ℕ) → is_blank b ≡ true → past_blanks (b ∷ bytes) ≡ past_blanks bytes
unfolding past_blanks
past_blanks_blank b bytes e =
    let next : 1 + position_or_len is_no_blank bytes ≡ suc (position_or_len is_no_blank bytes) = omega arith in
    ap (λ t. drop (cond (not (not t)) (1 + position_or_len is_no_blank bytes) 0) (b ∷ bytes)) e ∙ ap (λ n. drop n (b ∷ bytes)) next

pub past_blanks_other : (b : ℕ) (bytes : List ℕ) → is_blank b ≡ false → past_blanks (b ∷ bytes) ≡ b ∷ bytes
unfolding past_blanks
past_blanks_other b bytes e = ap (λ t. drop (cond (not (not t)) (1 + position_or_len is_no_blank bytes) 0) (b ∷ bytes)) e

pub past_blanks_none : past_blanks [] ≡ []
unfolding past_blanks
past_blanks_none = refl

push_blank : (bytes : List ℕ) (b : ℕ) → is_blank b ≡ true → list_all is_blank (bytes ++ b ∷ []) ≡ list_all is_blank bytes
push_blank [] b e = ap (λ t. t && true) e
push_blank (c ∷ bytes) b e = ap (λ t. is_blank c && t) (push_blank bytes b e)

push_other : (bytes : List ℕ) (b : ℕ) → is_blank b ≡ false → list_all is_blank (bytes ++ b ∷ []) ≡ false
push_other [] b e = ap (λ t. t && true) e
push_other (c ∷ bytes) b e = ap (λ t. is_blank c && t) (push_other bytes b e) ∙ and_right (is_blank c) false refl

-- bytes that end with a blank
pub before_blanks_blank : (bytes : List ℕ) (b : ℕ) → is_blank b ≡ true → before_blanks (bytes ++ b ∷ []) ≡ before_blanks bytes
unfolding before_blanks
before_blanks_blank [] b e = ap (λ t. cond (t && true) [] (b ∷ [])) e
before_blanks_blank (c ∷ bytes) b e =
    ap (λ t. cond (is_blank c && t) [] (c ∷ before_blanks (bytes ++ b ∷ []))) (push_blank bytes b e)
    ∙ ap (λ (rest : List ℕ). cond (is_blank c && list_all is_blank bytes) [] (c ∷ rest)) (before_blanks_blank bytes b e)

-- bytes that end with another byte
pub before_blanks_other : (bytes : List ℕ) (b : ℕ) → is_blank b ≡ false → before_blanks (bytes ++ b ∷ []) ≡ bytes ++ b ∷ []
unfolding before_blanks
before_blanks_other [] b e = ap (λ t. cond (t && true) [] (b ∷ [])) e
before_blanks_other (c ∷ bytes) b e =
    ap (λ t. cond t [] (c ∷ before_blanks (bytes ++ b ∷ []))) (ap (λ t. is_blank c && t) (push_other bytes b e) ∙ and_right (is_blank c) false refl)
    ∙ ap (λ (rest : List ℕ). c ∷ rest) (before_blanks_other bytes b e)

pub before_blanks_none : before_blanks [] ≡ []
unfolding before_blanks
before_blanks_none = refl

last_split : (bytes : List ℕ) → 0 < length bytes → bytes ≡ take (length bytes - 1) bytes ++ get_or bytes (length bytes - 1) 0 ∷ []
last_split bytes some =
    let n = length bytes - 1 in
    let lt : n < length bytes = omega arith in
    sym (take_all (n + 1) bytes (omega arith)) ∙ take_more bytes n 0 lt

pub before_blanks_less : (bytes : List ℕ) → 0 < length bytes → is_blank (get_or bytes (length bytes - 1) 0) ≡ true → before_blanks (take (length bytes - 1) bytes) ≡ before_blanks bytes
before_blanks_less bytes some e =
    sym (ap before_blanks (last_split bytes some) ∙ before_blanks_blank (take (length bytes - 1) bytes) _ e)

pub before_blanks_done : (bytes : List ℕ) → 0 < length bytes → is_blank (get_or bytes (length bytes - 1) 0) ≡ false → before_blanks bytes ≡ bytes
before_blanks_done bytes some e =
    ap before_blanks (last_split bytes some) ∙ before_blanks_other (take (length bytes - 1) bytes) _ e ∙ sym (last_split bytes some)

pub before_blanks_all : (bytes : List ℕ) → length bytes < 1 → before_blanks bytes ≡ []
before_blanks_all [] lt = before_blanks_none
before_blanks_all (b ∷ bytes) lt = absurd (omega (arith, lt))

pub ruleset blanks = (before_blanks_less, before_blanks_done, before_blanks_all)
