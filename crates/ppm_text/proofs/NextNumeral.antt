-- The next number of a text, by where its token begins and ends.
use Rattle.std.proofs.Common.{◌≡◌, ℕ, ◌+◌, ◌<◌, ◌≤◌, min, Bool, true, false, not, cond, List, [], ◌∷◌, length, get_or, drop, drop-drop, length-drop, Some, None, Ok, Err, refl, sym, ap, ◌∙◌, arith}
use Rattle.std.specs.Str.{all_ascii_digits}
use Rattle.std.specs.Str.Parse.{digits_value}
use Rattle.std.specs.List.{take_while}
use Rattle.std.proofs.lemmas.List.{at_drop_all}
use Rattle.ppm_text.specs.declared.fault.PpmFault.TheVariants.{Truncated, BadNumber}
use Rattle.ppm_text.specs.Tokens.{Token, tokens_at, tokens_from, without_comments, is_gap, next_place}
use Rattle.ppm_text.specs.Numerals.{begins_number, capped_at, number_on, numeral_at}
use Rattle.ppm_text.specs.ClosedNumbers.{IsClosedNumber}
use Rattle.ppm_text.proofs.Counting.{counted, tail_from, number_begins, number_begins_not, other_byte}
use Rattle.ppm_text.proofs.Scanning.{token_begins}

pub no_token : (bytes : List ℕ) (from place : ℕ) → tokens_at bytes place ≡ tokens_at bytes from → place ≡ length bytes
    → capped_at (length bytes) (tokens_at bytes from) ≡ Err (Truncated place)
unfolding numeral_at
no_token bytes from place same last =
    let none : tokens_at bytes place ≡ [] = at_drop_all (λ bs. tokens_from false place (without_comments false bs)) bytes place (omega arith) in
    ap (capped_at (length bytes)) (sym same ∙ none) ∙ ap (λ (n : ℕ). Err (Truncated n)) (sym last)

abbrev token_of : List ℕ → ℕ → Token
token_of bytes place = record { place = place; bytes = take_while (λ b. not (is_gap b)) (drop place bytes) }

some_token : (bytes : List ℕ) (from place end : ℕ) → tokens_at bytes place ≡ tokens_at bytes from → place < length bytes → is_gap (get_or bytes place 0) ≡ false
    → tokens_from true place (without_comments false (drop place bytes)) ≡ tokens_at bytes end → tokens_at bytes from ≡ token_of bytes place ∷ tokens_at bytes end
some_token bytes from place end same lt stops rest =
    sym same ∙ token_begins bytes place lt stops ∙ ap (λ (ts : List Token). token_of bytes place ∷ ts) rest

-- the token read, by whether it is digits alone
read_token : (end : ℕ) (token : Token) (rest : List Token) (digits : Bool) → all_ascii_digits token.bytes ≡ digits
    → capped_at end (token ∷ rest) ≡ cond digits (Ok (record { place = token.place; value = min (digits_value 10 token.bytes) 65536 }, rest)) (Err (BadNumber token.place))
unfolding numeral_at
read_token end token rest true h = rw h refl
read_token end token rest false h = rw h refl

given_some : (digits : Bool) (value n : ℕ) → Some value ≡ cond digits (Some n) None → (digits ≡ true) × (value ≡ n)
given_some true value n h = (refl, cc)
given_some false value n h = absurd cc

given_none : (digits : Bool) (n : ℕ) → None ≡ cond digits (Some n) None → digits ≡ false
given_none true n h = absurd cc
given_none false n h = refl

-- a token whose digits go up to a gap or the end of the text
pub number_token : (bytes : List ℕ) (from place end value behind : ℕ) → tokens_at bytes place ≡ tokens_at bytes from → place < length bytes → is_gap (get_or bytes place 0) ≡ false
    → tokens_from true end (without_comments false (drop end bytes)) ≡ tokens_from true place (without_comments false (drop place bytes))
    → tokens_from true end (without_comments false (drop end bytes)) ≡ tokens_at bytes behind
    → number_on (Some value) (drop end bytes) ≡ number_on (Some 0) (drop place bytes) → ((n : ℕ) → number_on (Some n) (drop end bytes) ≡ Some n)
    → capped_at (length bytes) (tokens_at bytes from) ≡ Ok (record { place = place; value = value }, tokens_at bytes behind)
number_token bytes from place end value behind same lt stops rest goes given ends =
    let token = token_of bytes place in
    let found = given_some (all_ascii_digits token.bytes) value (min (digits_value 10 token.bytes) 65536) (sym (ends value) ∙ given ∙ counted (drop place bytes)) in
    ap (capped_at (length bytes)) (some_token bytes from place behind same lt stops (sym rest ∙ goes)) ∙ read_token (length bytes) token (tokens_at bytes behind) true found.0
    ∙ ap (λ (n : ℕ). Ok (record { place = place; value = n }, tokens_at bytes behind)) (sym found.1)

-- a token whose digits go up to another byte
pub other_token : (bytes : List ℕ) (from place end value : ℕ) → tokens_at bytes place ≡ tokens_at bytes from → place < length bytes → is_gap (get_or bytes place 0) ≡ false
    → number_on (Some value) (drop end bytes) ≡ number_on (Some 0) (drop place bytes) → end < length bytes → is_gap (get_or bytes end 0) ≡ false → begins_number (drop end bytes) ≡ false
    → capped_at (length bytes) (tokens_at bytes from) ≡ Err (BadNumber place)
other_token bytes from place end value same lt stops given inside gap digit =
    let token = token_of bytes place in
    let rest = tokens_from true place (without_comments false (drop place bytes)) in
    let no_digits = given_none (all_ascii_digits token.bytes) (min (digits_value 10 token.bytes) 65536)
    (sym (other_byte bytes end value inside gap (number_begins_not bytes end digit inside)) ∙ given ∙ counted (drop place bytes)) in
    ap (capped_at (length bytes)) (sym same ∙ token_begins bytes place lt stops) ∙ read_token (length bytes) token rest false no_digits

pub ruleset next_numeral = (no_token, number_token, other_token, number_begins)

-- a token of digits with white space after it
pub closed_number : (bytes : List ℕ) (from value count : ℕ) → IsClosedNumber (drop from bytes) value count
    → capped_at (length bytes) (tokens_at bytes from) ≡ Ok (record { place = from; value = value }, tokens_at bytes (from + count))
closed_number bytes from value count is =
    let token = token_of bytes from in
    let begins = number_begins bytes from is.begins in
    let found = given_some (all_ascii_digits token.bytes) value (min (digits_value 10 token.bytes) 65536) (sym is.number ∙ counted (drop from bytes)) in
    let goes : tokens_from true from (without_comments false (drop from bytes)) ≡ tokens_at bytes (from + count) = is.rest from
    ∙ ap (λ bs. tokens_from false (from + count) (without_comments false bs)) (drop-drop count from bytes) in
    ap (capped_at (length bytes)) (some_token bytes from from (from + count) refl begins.0 begins.1 goes) ∙ read_token (length bytes) token (tokens_at bytes (from + count)) true found.0
    ∙ ap (λ (n : ℕ). Ok (record { place = from; value = n }, tokens_at bytes (from + count))) (sym found.1)

-- and the place after it
pub closed_within : (bytes : List ℕ) (from value count : ℕ) → from ≤ length bytes → IsClosedNumber (drop from bytes) value count → from + count ≤ length bytes
closed_within bytes from value count le is = omega (arith, is.within, length-drop from bytes)

pub ruleset closed_token = (closed_number, closed_within, tail_from)

pub no_next : (bytes : List ℕ) (from place : ℕ) → tokens_at bytes place ≡ tokens_at bytes from → length bytes ≤ place → next_place (tokens_at bytes from) ≡ None
no_next bytes from place same last =
    ap next_place (sym same ∙ at_drop_all (λ bs. tokens_from false place (without_comments false bs)) bytes place last)

pub some_next : (bytes : List ℕ) (from place : ℕ) → tokens_at bytes place ≡ tokens_at bytes from → place < length bytes → is_gap (get_or bytes place 0) ≡ false
    → next_place (tokens_at bytes from) ≡ Some place
some_next bytes from place same lt stops = ap next_place (sym same ∙ token_begins bytes place lt stops)

pub ruleset next_token = (no_next, some_next)
