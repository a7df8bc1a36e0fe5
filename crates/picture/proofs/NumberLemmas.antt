-- Digits and their value, up to a limit.
use Rattle.std.proofs.Common.{◌≡◌, ℕ, ◌+◌, ◌-◌, ◌*◌, ◌^◌, ◌<◌, ◌≤◌, Bool, true, false, cond, List, [], ◌∷◌, length, get_or, drop, Option, Some, None, IfSome, refl, sym, ap, ◌∙◌, arith, min}
use Rattle.std.proofs.Common.{option_map, ◌&&◌}
use Rattle.std.specs.Char.{is_ascii_digit}
use Rattle.std.specs.Str.{all_ascii_digits}
use Rattle.std.proofs.lemmas.Bool.{le-leb, lt-leb}
use Rattle.std.proofs.lemmas.List.{at_drop_more, at_drop_all}
use Rattle.std.proofs.lemmas.Str.Parse.{digits_value_short}
use Rattle.std.proofs.Math.Nat.{pow-le-pow_right}
use Rattle.picture.specs.Numbers.{value_after, number_spelled, short_number}
use Rattle.picture.proofs.NumberLaws.{own, number_from}

-- the value of digits after a number, never above the limit
unfoldable pub capped_after : ℕ → List ℕ → ℕ
capped_after n [] = n
capped_after n (d ∷ digits) = capped_after (min (n * 10 + (d - 48)) 100000) digits

min_step : (n d : ℕ) → min (min 100000 n * 10 + d) 100000 ≡ min 100000 (n * 10 + d)
min_step n d = omega arith

capped_is : (n : ℕ) (digits : List ℕ) → capped_after (min 100000 n) digits ≡ min 100000 (value_after n digits)
unfolding capped_after value_after
capped_is n [] = refl
capped_is n (d ∷ digits) = ap (λ k. capped_after k digits) (min_step n (d - 48)) ∙ capped_is (n * 10 + (d - 48)) digits

pub capped_more : (n : ℕ) (bytes : List ℕ) (i : ℕ) → i < length bytes → capped_after (min (n * 10 + (get_or bytes i 0 - 48)) 100000) (drop (i + 1) bytes) ≡ capped_after n (drop i bytes)
unfolding capped_after
capped_more n bytes i lt = sym (at_drop_more (capped_after n) bytes i 0 lt)

pub capped_all : (n : ℕ) (bytes : List ℕ) (i : ℕ) → length bytes ≤ i → capped_after n (drop i bytes) ≡ n
unfolding capped_after
capped_all n bytes i le = at_drop_all (capped_after n) bytes i le

pub digits_more : (bytes : List ℕ) (i : ℕ) → i < length bytes → is_ascii_digit (get_or bytes i 0) ≡ true → all_ascii_digits (drop (i + 1) bytes) ≡ all_ascii_digits (drop i bytes)
digits_more bytes i lt e = sym (at_drop_more all_ascii_digits bytes i 0 lt ∙ ap (λ t. t && all_ascii_digits (drop (i + 1) bytes)) e)

pub digits_not : (bytes : List ℕ) (i : ℕ) → i < length bytes → is_ascii_digit (get_or bytes i 0) ≡ false → all_ascii_digits (drop i bytes) ≡ false
digits_not bytes i lt e = at_drop_more all_ascii_digits bytes i 0 lt ∙ ap (λ t. t && all_ascii_digits (drop (i + 1) bytes)) e

pub digits_all : (bytes : List ℕ) (i : ℕ) → length bytes ≤ i → all_ascii_digits (drop i bytes) ≡ true
digits_all bytes i le = at_drop_all all_ascii_digits bytes i le

pub number_is : (bytes : List ℕ) → 0 < length bytes → all_ascii_digits bytes ≡ true → option_map (min 100000) (number_spelled bytes) ≡ Some (capped_after 0 bytes)
number_is bytes some e = ap (option_map (min 100000)) (number_from bytes some e) ∙ ap Some (sym (capped_is 0 bytes))

pub number_not : (bytes : List ℕ) → all_ascii_digits bytes ≡ false → number_spelled bytes ≡ None
unfolding number_spelled
number_not [] e = refl
number_not (b ∷ bytes) e = ap (λ t. cond t (Some (value_after 0 (b ∷ bytes))) None) e

pub number_empty : (bytes : List ℕ) → length bytes ≡ 0 → number_spelled bytes ≡ None
unfolding number_spelled
number_empty [] e = refl
number_empty (b ∷ bytes) e = absurd (omega (arith, e))

pub ruleset numbers = (capped_more, capped_all, digits_more, digits_not, digits_all, number_is, number_not, number_empty)

-- ---- few digits

-- a number of few digits is below the limit
record IsFew (most : ℕ) (number : Option ℕ) : Type 0 where
  kept : option_map (min 100000) number ≡ number
  small : IfSome number (λ n. n < 10 ^ most)

few : (most : ℕ) (bytes : List ℕ) → most ≤ 5 → length bytes ≤ most → IsFew most (number_spelled bytes)
unfolding number_spelled
few most [] le fits = record { kept = refl; small = tt }
few most (b ∷ bytes) le fits = by_test (all_ascii_digits (b ∷ bytes)) refl
  where
    by_test : (t : Bool) → all_ascii_digits (b ∷ bytes) ≡ t → IsFew most (cond t (Some (value_after 0 (b ∷ bytes))) None)
    by_test false e = record { kept = refl; small = tt }
    by_test true e =
        let below = digits_value_short own (b ∷ bytes) most e fits in
        let limit : 10 ^ most ≤ 100000 = pow-le-pow_right {n = 10} (omega arith) le in
        let same : min 100000 (value_after 0 (b ∷ bytes)) ≡ value_after 0 (b ∷ bytes) = omega (arith, below, limit) in
        record { kept = ap Some same; small = below }

pub short_kept : (most : ℕ) (bytes : List ℕ) → most ≤ 5 → length bytes ≤ most → option_map (min 100000) (number_spelled bytes) ≡ short_number most bytes
short_kept most bytes le fits = (few most bytes le fits).kept ∙ sym (ap (λ t. cond t (number_spelled bytes) None) (le-leb (length bytes) most fits))

pub short_none : (most : ℕ) (bytes : List ℕ) → most < length bytes → short_number most bytes ≡ None
short_none most bytes long = ap (λ t. cond t (number_spelled bytes) None) (lt-leb (length bytes) most long)

pub short_small : (most : ℕ) (bytes : List ℕ) (number : Option ℕ) → most ≤ 5 → length bytes ≤ most → number ≡ option_map (min 100000) (number_spelled bytes) → IfSome number (λ n. n < 10 ^ most)
short_small most bytes number le fits e = rw (e ∙ (few most bytes le fits).kept) (few most bytes le fits).small

pub ruleset short_numbers = (short_kept, short_none, short_small)
