-- Numbers with white space right after them.
use Rattle.std.proofs.Common.{◌≡◌, ℕ, suc, ◌+◌, ◌*◌, ◌≤◌, min, true, false, List, [], ◌∷◌, length, drop, drop-drop, ◌-◌, Some, refl, sym, ap, subst, ◌∙◌, add-one, arith}
use Rattle.std.proofs.lemmas.Bool.Decides.{nat_tests}
use Rattle.ppm_text.specs.Tokens.{tokens_from, without_comments, is_gap, is_space, in_comment}
use Rattle.ppm_text.specs.Numerals.{begins_number, number_on}
use Rattle.ppm_text.specs.ClosedNumbers.{IsBehind, IsClosedNumber, begins_white}
use Rattle.ppm_text.proofs.Scanning.{no_gap, no_comment, gap_parts}
use Rattle.ppm_text.proofs.Counting.{digit_counts, is_digit}

-- how a text continues a number, where n was read before it
record GoesOn (n : ℕ) (text : List ℕ) (value count : ℕ) : Type 0 where
  within : count ≤ length text
  number : number_on (Some n) text ≡ Some value
  rest : (place : ℕ) → tokens_from true place (without_comments false text) ≡ tokens_from false (place + count) (without_comments false (drop count text))

space_is_gap : (b : ℕ) → is_space b ≡ true → is_gap b ≡ true
space_is_gap b h = rw h refl

no_comment_at : (b : ℕ) → is_space b ≡ true → in_comment false b ≡ false
no_comment_at b h = grind (arith, nat_tests)

-- white space ends the number
ends : (n : ℕ) (text : List ℕ) → begins_white text ≡ true → GoesOn n text n 1
ends n [] h = absurd cc
ends n (b ∷ rest) h = record {
  within = omega arith;
  number = rw (space_is_gap b h) refl;
  rest = λ place. rw (no_comment_at b h, h, add-one) refl;
}

-- a digit continues the number
goes_on : (n d value count : ℕ) (text rest : List ℕ) → text ≡ (48 + d) ∷ rest → d ≤ 9 → n * 10 + d ≤ 65536 → GoesOn (n * 10 + d) rest value count → GoesOn n text value (suc count)
goes_on n d value count text rest e le small more =
    let gap = no_gap (48 + d) (is_digit d le) in
    let kept : min (n * 10 + d) 65536 ≡ n * 10 + d = omega arith in
    let one : (place : ℕ)
    → tokens_from true place (without_comments false ((48 + d) ∷ rest)) ≡ tokens_from true (suc place) (without_comments false rest) = λ place. rw (no_comment _ gap, (gap_parts _ gap).0) refl in
    let later : (place : ℕ) → suc place + count ≡ place + suc count = λ place. omega arith in
    record {
      within = omega (arith, more.within, ap length e);
      number = sym (digit_counts text rest d n e le) ∙ ap (λ (v : ℕ). number_on (Some v) rest) kept ∙ more.number;
      rest = λ place. ap (λ bs. tokens_from true place (without_comments false bs)) e ∙ one place ∙ more.rest (suc place)
          ∙ ap (λ (p : ℕ). tokens_from false p (without_comments false (drop count rest))) (later place)
          ∙ ap (λ bs. tokens_from false (place + suc count) (without_comments false (drop (suc count) bs))) (sym e);
    }

closed : (text rest : List ℕ) (a value count : ℕ) → text ≡ (48 + a) ∷ rest → a ≤ 9 → GoesOn a rest value count → IsClosedNumber text value (suc count)
closed text rest a value count e le more =
    let from_none : a ≡ 0 * 10 + a = omega arith in
    let goes = goes_on 0 a value count text rest e le (omega arith) (subst (λ (n : ℕ). GoesOn n rest value count) from_none more) in
    record {
      within = goes.within;
      begins = ap begins_number e ∙ is_digit a le;
      number = goes.number;
      rest = goes.rest;
    }

pub one_digit : (text rest : List ℕ) (a : ℕ) → text ≡ (48 + a) ∷ rest → a ≤ 9 → begins_white rest ≡ true → IsClosedNumber text a 2
one_digit text rest a e le h = closed text rest a a 1 e le (ends a rest h)

pub two_digits : (text rest more : List ℕ) (a b : ℕ) → text ≡ (48 + a) ∷ rest → a ≤ 9 → rest ≡ (48 + b) ∷ more → b ≤ 9 → begins_white more ≡ true → IsClosedNumber text (a * 10 + b) 3
two_digits text rest more a b e le f lf h =
    let n = a * 10 + b in
    closed text rest a n 2 e le (goes_on a b n 1 rest more f lf (omega arith) (ends n more h))

-- the digits that were read on, and white space after them
counted_on : (n value : ℕ) (text rest : List ℕ) → number_on (Some value) rest ≡ number_on (Some n) text → IsBehind text rest → begins_white rest ≡ true
    → GoesOn n text value (length text - length rest + 1)
counted_on n value text rest number behind h =
    let last = ends value rest h in
    let at = length text - length rest in
    let later : (place : ℕ) → place + at + 1 ≡ place + (at + 1) = λ place. omega arith in
    record {
      within = omega (arith, behind.within, last.within);
      number = sym number ∙ last.number;
      rest = λ place. sym (behind.tokens place) ∙ last.rest (place + at)
          ∙ ap (λ (bs : List ℕ). tokens_from false (place + at + 1) (without_comments false (drop 1 bs))) behind.tail
          ∙ ap (λ (bs : List ℕ). tokens_from false (place + at + 1) (without_comments false bs)) (drop-drop 1 at text)
          ∙ ap (λ (p : ℕ). tokens_from false p (without_comments false (drop (at + 1) text))) (later place);
    }

pub more_digits : (text rest more last behind : List ℕ) (a b c value : ℕ) → text ≡ (48 + a) ∷ rest → a ≤ 9 → rest ≡ (48 + b) ∷ more → b ≤ 9 → more ≡ (48 + c) ∷ last → c ≤ 9
    → number_on (Some value) behind ≡ number_on (Some ((a * 10 + b) * 10 + c)) last → IsBehind last behind → begins_white behind ≡ true
    → IsClosedNumber text value (length text - length behind + 1)
more_digits text rest more last behind a b c value e le f lf g lg number is h =
    let tens = a * 10 + b in
    let count = length last - length behind + 1 in
    let all : suc (suc (suc count)) ≡ length text - length behind + 1 = omega (arith, is.within, ap length e, ap length f, ap length g) in
    let many = closed text rest a value (suc (suc count)) e le
    (goes_on a b value (suc count) rest more f lf (omega arith) (goes_on tens c value count more last g lg (omega arith) (counted_on (tens * 10 + c) value last behind number is h))) in
    subst (λ (n : ℕ). IsClosedNumber text value n) all many

pub more_within : (text rest more last behind : List ℕ) (a b c : ℕ) → text ≡ (48 + a) ∷ rest → rest ≡ (48 + b) ∷ more → more ≡ (48 + c) ∷ last → IsBehind last behind → length behind ≤ length text
more_within text rest more last behind a b c e f g is = omega (arith, is.within, ap length e, ap length f, ap length g)

pub ruleset closed_numbers = (one_digit, two_digits, more_digits, more_within)
