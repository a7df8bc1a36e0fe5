-- Laws of numbers in decimal digits: what is written is read as the same number.
use Rattle.std.proofs.Common.{◌≡◌, ℕ, ◌^◌, ◌<◌, ◌≤◌, true, cond, not, eqb, leb, List, [], ◌∷◌, length, Some, None, refl, ap, ◌∙◌, arith, rules, decimal}
use Rattle.std.specs.Str.{all_ascii_digits}
use Rattle.std.specs.Char.{is_ascii_digit}
use Rattle.std.proofs.lemmas.Bool.{and_from, and_parts, leb-true, ne_eqb, not_from_false}
use Rattle.std.proofs.lemmas.Str.Parse.{IsNumeralModel, numerals_by_fold}
use Rattle.std.proofs.lemmas.Fmt.{digits_decimal, digits_value-decimal, decimal_nonempty}
use Rattle.picture.specs.Numbers.{value_after, number_spelled}
use Rattle.picture.proofs.SplitLaws.{lacks}

-- a digit is from 48 to 57
pub digit_range : (d : ℕ) → is_ascii_digit d ≡ true → (48 ≤ d) × (d ≤ 57)
digit_range d e = let parts = and_parts (leb 48 d) (leb d 57) e in (leb-true 48 d parts.0, leb-true d 57 parts.1)

pub own : IsNumeralModel (λ ds. all_ascii_digits ds ≡ true) (value_after 0)
unfolding value_after
own = numerals_by_fold _ (search rules) value_after (search rules)

pub decimal_digits : (n : ℕ) → n < 2 ^ 64 → all_ascii_digits (decimal n) ≡ true
decimal_digits n small = digits_decimal own n small

pub number_from : (digits : List ℕ) → 0 < length digits → all_ascii_digits digits ≡ true → number_spelled digits ≡ Some (value_after 0 digits)
unfolding number_spelled
number_from [] some e = absurd (omega (arith, some))
number_from (d ∷ digits) some e = ap (λ t. cond t (Some (value_after 0 (d ∷ digits))) None) e

pub number_spelled-decimal : (n : ℕ) → n < 2 ^ 64 → number_spelled (decimal n) ≡ Some n
number_spelled-decimal n small = number_from (decimal n) (decimal_nonempty n small) (decimal_digits n small) ∙ ap Some (digits_value-decimal own n small)

-- digits have no byte that is below the digits
digits_lack : (c : ℕ) (digits : List ℕ) → c < 48 → all_ascii_digits digits ≡ true → lacks c digits ≡ true
digits_lack c [] low e = refl
digits_lack c (d ∷ digits) low e =
    let parts = and_parts (is_ascii_digit d) (all_ascii_digits digits) e in
    let range = digit_range d parts.0 in
    and_from (not (eqb d c)) (lacks c digits) (not_from_false (eqb d c) (ne_eqb d c (omega (arith, low, range.0)))) (digits_lack c digits low parts.1)

pub decimal_lacks : (c n : ℕ) → c < 48 → n < 2 ^ 64 → lacks c (decimal n) ≡ true
decimal_lacks c n low small = digits_lack c (decimal n) low (decimal_digits n small)
