-- Numbers as they are written, read again.
use Rattle.std.proofs.Common.{◌≡◌, ℕ, ◌^◌, ◌<◌, true, false, cond, eqb, List, [], ◌∷◌, Some, refl, ap, ◌∙◌, arith, ◌&&◌, ◌||◌, decimal}
use Rattle.std.specs.Char.{is_ascii_digit}
use Rattle.std.specs.Str.{all_ascii_digits}
use Rattle.std.specs.List.{list_all}
use Rattle.std.proofs.lemmas.Bool.{ne_eqb, and_parts}
use Rattle.non_text.specs.Bytes.{is_blank, past_blanks, before_blanks, trimmed}
use Rattle.picture.specs.Numbers.{number_spelled}
use Rattle.picture.proofs.NumberLaws.{decimal_digits, digit_range, number_spelled-decimal}
use Rattle.non_text.proofs.BytesLemmas.{past_blanks_other, past_blanks_none}

pub not_blank : (b : ℕ) → 32 < b → is_blank b ≡ false
unfolding is_blank
not_blank b more = ap (λ t. t || eqb b 9) (ne_eqb b 32 (omega arith)) ∙ ne_eqb b 9 (omega arith)

pub digit_not_blank : (d : ℕ) → is_ascii_digit d ≡ true → is_blank d ≡ false
digit_not_blank d e = let range = digit_range d e in not_blank d (omega (arith, range.0))

past_digits : (digits : List ℕ) → all_ascii_digits digits ≡ true → past_blanks digits ≡ digits
past_digits [] e = past_blanks_none
past_digits (d ∷ digits) e = past_blanks_other d digits (digit_not_blank d (and_parts (is_ascii_digit d) (all_ascii_digits digits) e).0)

before_digits : (digits : List ℕ) → all_ascii_digits digits ≡ true → before_blanks digits ≡ digits
unfolding before_blanks
before_digits [] e = refl
before_digits (d ∷ digits) e =
    let parts = and_parts (is_ascii_digit d) (all_ascii_digits digits) e in
    ap (λ t. cond (t && list_all is_blank digits) [] (d ∷ before_blanks digits)) (digit_not_blank d parts.0)
    ∙ ap (λ (rest : List ℕ). d ∷ rest) (before_digits digits parts.1)

-- digits have no blanks to trim
pub trimmed_digits : (digits : List ℕ) → all_ascii_digits digits ≡ true → trimmed digits ≡ digits
trimmed_digits digits e = ap before_blanks (past_digits digits e) ∙ before_digits digits e

-- a number that is written is read again
pub number_again : (n : ℕ) → n < 2 ^ 64 → number_spelled (trimmed (decimal n)) ≡ Some n
number_again n small = ap number_spelled (trimmed_digits (decimal n) (decimal_digits n small)) ∙ number_spelled-decimal n small
