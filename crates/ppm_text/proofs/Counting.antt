-- How the number of a token is read, digit by digit and up to the cap.
use Rattle.std.proofs.Common.{◌≡◌, ℕ, suc, take, inl, inr, ◌+◌, ◌-◌, ◌*◌, ◌<◌, ◌≤◌, min, Bool, true, false, not, ◌&&◌, cond, List, [], ◌∷◌, length, get_or, drop, drop-drop, length-drop, Option, Some}
use Rattle.std.proofs.Common.{None, refl, sym, ap, ◌∙◌, arith}
use Rattle.std.specs.Char.{is_ascii_digit, digit_value}
use Rattle.std.specs.Str.{all_ascii_digits}
use Rattle.std.specs.Str.Parse.{digits_value_after}
use Rattle.std.specs.List.{take_while}
use Rattle.std.proofs.lemmas.Bool.Decides.{nat_tests}
use Rattle.std.proofs.lemmas.Bool.{cases_lt}
use Rattle.std.proofs.lemmas.List.{at_drop_more, at_drop_all, take_rest}
use Rattle.std.proofs.lemmas.List.Sums.{take_while-cons}
use Rattle.ppm_text.specs.Tokens.{tokens_from, without_comments, is_gap}
use Rattle.ppm_text.specs.ClosedNumbers.{IsBehind}
use Rattle.ppm_text.specs.Numerals.{begins_number, capped, with_byte, number_on}
use Rattle.ppm_text.proofs.Scanning.{no_gap, no_comment, gap_parts, token_ends, last_token_ends}

pub is_digit : (d : ℕ) → d ≤ 9 → is_ascii_digit (48 + d) ≡ true
is_digit d le = grind (arith, nat_tests)

-- a number is read on by one digit
pub digit_counts : (rest more : List ℕ) (d n : ℕ) → rest ≡ (48 + d) ∷ more → d ≤ 9 → number_on (Some (min (n * 10 + d) 65536)) more ≡ number_on (Some n) rest
digit_counts rest more d n e le =
    let digit = is_digit d le in
    let gap = no_gap (48 + d) digit in
    let value : 48 + d - 48 ≡ d = omega arith in
    let one : number_on (Some n) ((48 + d) ∷ more) ≡ number_on (Some (min (n * 10 + d) 65536)) more = rw (gap, digit, value) refl in
    sym (ap (number_on (Some n)) e ∙ one)

-- the rest of a text before any digit is read is the text
pub behind_none : (text : List ℕ) → IsBehind text text
behind_none text =
    let none : 0 ≡ length text - length text = omega arith in
    let same : (place : ℕ) → place + (length text - length text) ≡ place = λ place. omega arith in
    record {
      within = omega arith;
      tail = ap (λ (n : ℕ). drop n text) none;
      tokens = λ place. ap (λ (n : ℕ). tokens_from true n (without_comments false text)) (same place);
    }

-- a digit is part of its token
digit_passes : (place d : ℕ) (more : List ℕ) → d ≤ 9 → tokens_from true (suc place) (without_comments false more) ≡ tokens_from true place (without_comments false ((48 + d) ∷ more))
digit_passes place d more le =
    let gap = no_gap (48 + d) (is_digit d le) in
    let one : tokens_from true place (without_comments false ((48 + d) ∷ more)) ≡ tokens_from true (suc place) (without_comments false more) = rw (no_comment _ gap, (gap_parts _ gap).0) refl in
    sym one

-- the rest after one more digit
pub behind_digit : (text rest more : List ℕ) (d : ℕ) → rest ≡ (48 + d) ∷ more → d ≤ 9 → IsBehind text rest → IsBehind text more
behind_digit text rest more d e le is =
    let at = length text - length rest in
    let lt : at < length text = omega (arith, is.within, ap length e) in
    let later : at + 1 ≡ length text - length more = omega (arith, is.within, ap length e) in
    let both : (48 + d) ∷ more ≡ get_or text at 0 ∷ drop (at + 1) text = sym e ∙ is.tail ∙ at_drop_more (λ bs. bs) text at 0 lt in
    let same : more ≡ drop (at + 1) text = cc in
    let place_later : (place : ℕ) → place + (length text - length more) ≡ suc (place + at) = λ place. omega (arith, later) in
    record {
      within = omega (arith, is.within, ap length e);
      tail = same ∙ ap (λ (n : ℕ). drop n text) later;
      tokens = λ place. ap (λ (n : ℕ). tokens_from true n (without_comments false more)) (place_later place) ∙ digit_passes (place + at) d more le
          ∙ ap (λ bs. tokens_from true (place + at) (without_comments false bs)) (sym e) ∙ is.tokens place;
    }

-- what follows a tail is after it in the text too
pub behind_from : (bytes rest : List ℕ) (from : ℕ) → from ≤ length bytes → IsBehind (drop from bytes) rest → rest ≡ drop (length bytes - length rest) bytes
behind_from bytes rest from le is =
    let later : from + (length (drop from bytes) - length rest) ≡ length bytes - length rest = omega (arith, is.within, length-drop from bytes) in
    is.tail ∙ drop-drop (length (drop from bytes) - length rest) from bytes ∙ ap (λ (n : ℕ). drop n bytes) later

pub tokens_behind : (bytes rest : List ℕ) (from : ℕ) → from ≤ length bytes → IsBehind (drop from bytes) rest
    → tokens_from true (length bytes - length rest) (without_comments false rest) ≡ tokens_from true from (without_comments false (drop from bytes))
tokens_behind bytes rest from le is =
    let later : from + (length (drop from bytes) - length rest) ≡ length bytes - length rest = omega (arith, is.within, length-drop from bytes) in
    ap (λ (n : ℕ). tokens_from true n (without_comments false rest)) (sym later) ∙ is.tokens from

-- what a slice from a place on has
pub tail_from : (bytes : List ℕ) (from : ℕ) → take (length bytes - from) (drop from bytes) ≡ drop from bytes
tail_from bytes from = take_rest bytes from

pub ruleset counting = (behind_none, behind_from, tokens_behind, tail_from)

-- at a place of the text
pub number_begins : (bytes : List ℕ) (at : ℕ) → begins_number (drop at bytes) ≡ true → (at < length bytes) × (is_gap (get_or bytes at 0) ≡ false)
number_begins bytes at h =
    elim (cases_lt at (length bytes)) [
      | inl lt ↦ (lt, no_gap (get_or bytes at 0) (sym (at_drop_more begins_number bytes at 0 lt) ∙ h))
      | inr le ↦ absurd (none (sym (at_drop_all begins_number bytes at le) ∙ h))
    ] where
      none : false ≡ true → ⊥
      none e = cc

pub number_begins_not : (bytes : List ℕ) (at : ℕ) → begins_number (drop at bytes) ≡ false → at < length bytes → is_ascii_digit (get_or bytes at 0) ≡ false
number_begins_not bytes at h lt = sym (at_drop_more begins_number bytes at 0 lt) ∙ h

-- a number ends at a gap, and at the end of the text
pub number_ends : (bytes : List ℕ) (at n : ℕ) → at < length bytes → is_gap (get_or bytes at 0) ≡ true → number_on (Some n) (drop at bytes) ≡ Some n
number_ends bytes at n lt h =
    let one : number_on (Some n) (get_or bytes at 0 ∷ drop (at + 1) bytes) ≡ Some n = rw h refl in
    at_drop_more (number_on (Some n)) bytes at 0 lt ∙ one

pub last_number_ends : (bytes : List ℕ) (at n : ℕ) → length bytes ≤ at → number_on (Some n) (drop at bytes) ≡ Some n
last_number_ends bytes at n le = at_drop_all (number_on (Some n)) bytes at le

pub ruleset token_end = (number_ends, last_number_ends, token_ends, last_token_ends)

-- the digits after a number, counted up to the cap
abbrev capped_after : ℕ → List ℕ → Option ℕ
capped_after n bytes = cond (all_ascii_digits bytes) (Some (min (digits_value_after 10 n bytes) 65536)) None

digit_value_is : (b : ℕ) → is_ascii_digit b ≡ true → digit_value b ≡ b - 48
digit_value_is b h = grind (arith, nat_tests)

min_again : (n d : ℕ) → min (min n 65536 * 10 + d) 65536 ≡ min (n * 10 + d) 65536
min_again n d = omega arith

kept : (gap : Bool) (rest : Option ℕ) → rest ≡ None → cond gap None rest ≡ None
kept true rest h = refl
kept false rest h = h

number_on-none : (bytes : List ℕ) → number_on None bytes ≡ None
number_on-none [] = refl
number_on-none (b ∷ rest) = kept (is_gap b) (number_on None rest) (number_on-none rest)

abbrev digits_of_token : List ℕ → List ℕ
digits_of_token bytes = take_while (λ b. not (is_gap b)) bytes

by_digit : (n b : ℕ) (rest : List ℕ) (digit : Bool) → is_ascii_digit b ≡ digit → ((m : ℕ) → number_on (Some (min m 65536)) rest ≡ capped_after m (digits_of_token rest))
    → number_on (with_byte (Some (min n 65536)) b) rest ≡ capped_after n (b ∷ digits_of_token rest)
by_digit n b rest true h others =
    let m = n * 10 + digit_value b in
    let one : with_byte (Some (min n 65536)) b ≡ Some (min m 65536) = ap (λ t. cond t (Some (min (min n 65536 * 10 + (b - 48)) 65536)) None) h
    ∙ ap (λ (d : ℕ). Some (min (min n 65536 * 10 + d) 65536)) (sym (digit_value_is b h)) ∙ ap (λ (v : ℕ). Some v) (min_again n (digit_value b)) in
    ap (λ (v : Option ℕ). number_on v rest) one ∙ others m
    ∙ sym (ap (λ t. cond (t && all_ascii_digits (digits_of_token rest)) (Some (min (digits_value_after 10 m (digits_of_token rest)) 65536)) None) h)
by_digit n b rest false h others =
    let one : with_byte (Some (min n 65536)) b ≡ None = ap (λ t. cond t (Some (min (min n 65536 * 10 + (b - 48)) 65536)) None) h in
    ap (λ (v : Option ℕ). number_on v rest) one ∙ number_on-none rest
    ∙ sym (ap (λ t. cond (t && all_ascii_digits (digits_of_token rest)) (Some (min (digits_value_after 10 (n * 10 + digit_value b) (digits_of_token rest)) 65536)) None) h)

by_gap : (n b : ℕ) (rest : List ℕ) (gap : Bool) → is_gap b ≡ gap → ((m : ℕ) → number_on (Some (min m 65536)) rest ≡ capped_after m (digits_of_token rest))
    → number_on (Some (min n 65536)) (b ∷ rest) ≡ capped_after n (digits_of_token (b ∷ rest))
by_gap n b rest true h others =
    ap (λ t. cond t (Some (min n 65536)) (number_on (with_byte (Some (min n 65536)) b) rest)) h
    ∙ sym (ap (capped_after n) (take_while-cons (λ x. not (is_gap x)) b rest ∙ ap (λ t. cond (not t) (b ∷ digits_of_token rest) []) h))
by_gap n b rest false h others =
    ap (λ t. cond t (Some (min n 65536)) (number_on (with_byte (Some (min n 65536)) b) rest)) h ∙ by_digit n b rest (is_ascii_digit b) refl others
    ∙ sym (ap (capped_after n) (take_while-cons (λ x. not (is_gap x)) b rest ∙ ap (λ t. cond (not t) (b ∷ digits_of_token rest) []) h))

number_after : (bytes : List ℕ) (n : ℕ) → number_on (Some (min n 65536)) bytes ≡ capped_after n (digits_of_token bytes)
number_after [] n = refl
number_after (b ∷ rest) n = by_gap n b rest (is_gap b) refl (number_after rest)

-- what is counted from 0 is the value of the token's digits, up to the cap
pub counted : (bytes : List ℕ) → number_on (Some 0) bytes ≡ capped (take_while (λ b. not (is_gap b)) bytes)
counted bytes = number_after bytes 0

-- a byte that is not a digit makes no number
pub other_byte : (bytes : List ℕ) (at n : ℕ) → at < length bytes → is_gap (get_or bytes at 0) ≡ false → is_ascii_digit (get_or bytes at 0) ≡ false → number_on (Some n) (drop at bytes) ≡ None
other_byte bytes at n lt gap digit =
    let one : number_on (Some n) (get_or bytes at 0 ∷ drop (at + 1) bytes) ≡ number_on None (drop (at + 1) bytes) = rw (gap, digit) refl in
    at_drop_more (number_on (Some n)) bytes at 0 lt ∙ one ∙ number_on-none (drop (at + 1) bytes)
