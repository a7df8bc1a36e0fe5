-- Numbers that are written with a space or a line end after them are read again.
use Rattle.std.proofs.Common.{◌≡◌, ℕ, suc, ◌+◌, ◌^◌, ◌<◌, ◌≤◌, Bool, true, false, not, ◌&&◌, ◌||◌, cond, eqb, ltb, leb, List, [], ◌∷◌, ◌++◌, length, Result, Ok, Err, Some, refl, ap, ◌∙◌, append_assoc}
use Rattle.std.proofs.Common.{arith, rules, decimal}
use Rattle.std.specs.Char.{is_ascii_digit}
use Rattle.std.specs.Str.{all_ascii_digits}
use Rattle.std.specs.Str.Parse.{digits_value, digits_value_after}
use Rattle.std.specs.List.{take_while}
use Rattle.std.proofs.lemmas.Bool.Decides.{nat_tests}
use Rattle.std.proofs.lemmas.Bool.{and_parts, leb-true}
use Rattle.std.proofs.lemmas.List.Sums.{take_while-cons}
use Rattle.std.proofs.lemmas.Str.Parse.{IsNumeralModel, numerals_by_fold}
use Rattle.std.proofs.lemmas.Fmt.{digits_decimal, digits_value-decimal, decimal_nonempty}
use Rattle.picture.specs.declared.picture.TheConstants.{MAX_SIDE}
use Rattle.picture.specs.Readers.{◌>>=◌}
use Rattle.picture.specs.declared.rgb.Rgb.{Rgb}
use Rattle.picture.specs.Palette.{fits, only_background}
use Rattle.ppm_text.specs.declared.fault.PpmFault.{PpmFault}
use Rattle.ppm_text.specs.declared.fault.PpmFault.TheVariants.{BadNumber}
use Rattle.ppm_text.specs.declared.scanner.Numeral.{Numeral}
use Rattle.ppm_text.specs.Tokens.{Token, tokens_from, without_comments, is_space, in_comment}
use Rattle.ppm_text.specs.Numerals.{numeral_at}
use Rattle.ppm_text.specs.Samples.{side_at, sample_at, samples_at}
use Rattle.ppm_text.specs.Ppm.{palette_at}
use Rattle.picture.specs.Writers.{number_text}
use Rattle.ppm_text.specs.Text.{triple_text}
use Rattle.ppm_text.proofs.Binds.{bind_is}
use Rattle.ppm_text.proofs.Scanning.{no_comment, no_gap, gap_parts}

-- the tokens of a text that begins at a place
abbrev pub text_tokens : ℕ → List ℕ → List Token
text_tokens place text = tokens_from false place (without_comments false text)

digits_kept : (ds rest : List ℕ) → all_ascii_digits ds ≡ true → without_comments false (ds ++ rest) ≡ ds ++ without_comments false rest
digits_kept [] rest h = refl
digits_kept (d ∷ ds) rest h =
    let p = and_parts (is_ascii_digit d) (all_ascii_digits ds) h in
    ap (λ t. cond t 32 d ∷ without_comments t (ds ++ rest)) (no_comment d (no_gap d p.0)) ∙ ap (λ (xs : List ℕ). d ∷ xs) (digits_kept ds rest p.1)

-- what closes a number: a space or a line end
pub record Closes (close : ℕ) : Type 0 where
  pub space : is_space close ≡ true
  pub outside : in_comment false close ≡ false

pub space_closes : Closes 32
space_closes = record { space = refl; outside = refl }

pub line_end_closes : Closes 10
line_end_closes = record { space = refl; outside = refl }

digits_over : (ds ys : List ℕ) (place close : ℕ) → all_ascii_digits ds ≡ true → is_space close ≡ true → tokens_from true place (ds ++ close ∷ ys) ≡ tokens_from false (place + length ds + 1) ys
digits_over [] ys place close h space =
    let count : suc place ≡ place + 0 + 1 = omega arith in
    ap (λ t. cond t (tokens_from false (suc place) ys) (tokens_from true (suc place) ys)) space ∙ ap (λ (n : ℕ). tokens_from false n ys) count
digits_over (d ∷ ds) ys place close h space =
    let p = and_parts (is_ascii_digit d) (all_ascii_digits ds) h in
    let count : suc place + length ds + 1 ≡ place + suc (length ds) + 1 = omega arith in
    ap (λ t. cond t (tokens_from false (suc place) (ds ++ close ∷ ys)) (tokens_from true (suc place) (ds ++ close ∷ ys))) (gap_parts d (no_gap d p.0)).0 ∙ digits_over ds ys (suc place) close p.1 space
    ∙ ap (λ (n : ℕ). tokens_from false n ys) count

digits_taken : (ds ys : List ℕ) (close : ℕ) → all_ascii_digits ds ≡ true → is_space close ≡ true → take_while (λ x. not (is_space x)) (ds ++ close ∷ ys) ≡ ds
digits_taken [] ys close h space =
    take_while-cons (λ x. not (is_space x)) close ys ∙ ap (λ t. cond (not t) (close ∷ take_while (λ x. not (is_space x)) ys) []) space
digits_taken (d ∷ ds) ys close h space =
    let p = and_parts (is_ascii_digit d) (all_ascii_digits ds) h in
    take_while-cons (λ x. not (is_space x)) d (ds ++ close ∷ ys) ∙ ap (λ t. cond (not t) (d ∷ take_while (λ x. not (is_space x)) (ds ++ close ∷ ys)) []) (gap_parts d (no_gap d p.0)).0
    ∙ ap (λ (xs : List ℕ). d ∷ xs) (digits_taken ds ys close p.1 space)

first_digit : (ds ys : List ℕ) (place close : ℕ) → 0 < length ds → all_ascii_digits ds ≡ true → is_space close ≡ true
    → tokens_from false place (ds ++ close ∷ ys) ≡ record { place = place; bytes = ds } ∷ tokens_from false (place + length ds + 1) ys
first_digit [] ys place close some h space = absurd (omega arith)
first_digit (d ∷ ds) ys place close some h space =
    let p = and_parts (is_ascii_digit d) (all_ascii_digits ds) h in
    let count : suc place + length ds + 1 ≡ place + suc (length ds) + 1 = omega arith in
    let token : List ℕ → Token = λ bs. record { place = place; bytes = bs } in
    ap (λ t. cond t (tokens_from false (suc place) (ds ++ close ∷ ys)) (token (take_while (λ x. not (is_space x)) (d ∷ (ds ++ close ∷ ys))) ∷ tokens_from true (suc place) (ds ++ close ∷ ys)))
    (gap_parts d (no_gap d p.0)).0
    ∙ ap (λ (bs : List ℕ). token bs ∷ tokens_from true (suc place) (ds ++ close ∷ ys)) (digits_taken (d ∷ ds) ys close h space)
    ∙ ap (λ (ts : List Token). token (d ∷ ds) ∷ ts) (digits_over ds ys (suc place) close p.1 space ∙ ap (λ (n : ℕ). tokens_from false n ys) count)

spelled : (ds rest : List ℕ) (place close : ℕ) → 0 < length ds → all_ascii_digits ds ≡ true → Closes close
    → text_tokens place (ds ++ close ∷ rest) ≡ record { place = place; bytes = ds } ∷ text_tokens (place + length ds + 1) rest
spelled ds rest place close some h closes =
    ap (tokens_from false place) (digits_kept ds (close ∷ rest) h ∙ ap (λ t. ds ++ (cond t 32 close ∷ without_comments t rest)) closes.outside)
    ∙ first_digit ds (without_comments false rest) place close some h closes.space

own : IsNumeralModel (λ ds. all_ascii_digits ds ≡ true) (digits_value_after 10 0)
own = numerals_by_fold _ (search rules) (digits_value_after 10) (search (rules, nat_tests))

number_text_is : (n close : ℕ) (rest : List ℕ) → number_text n close ++ rest ≡ decimal n ++ close ∷ rest
number_text_is n close rest = append_assoc (decimal n) (close ∷ []) rest

-- where the text goes on after a number
abbrev pub behind : ℕ → ℕ → ℕ
behind place n = place + length (decimal n) + 1

pub number_again : (end place n close : ℕ) (rest : List ℕ) → n < 2 ^ 64 → Closes close
    → numeral_at end (text_tokens place (number_text n close ++ rest)) ≡ Ok (record { place = place; value = n }, text_tokens (behind place n) rest)
unfolding numeral_at
number_again end place n close rest small closes =
    let digits = digits_decimal own n small in
    let value : digits_value 10 (decimal n) ≡ n = digits_value-decimal own n small in
    let after = text_tokens (behind place n) rest in
    let read : Bool → ℕ → Result (Numeral × List Token) PpmFault = λ b v. cond b (Ok (record { place = place; value = v }, after)) (Err (BadNumber place)) in
    ap (λ (text : List ℕ). numeral_at end (text_tokens place text)) (number_text_is n close rest)
    ∙ ap (numeral_at end) (spelled (decimal n) rest place close (decimal_nonempty n small) digits closes)
    ∙ ap (λ b. read b (digits_value 10 (decimal n))) digits ∙ ap (read true) value

pub side_again : (end place n close : ℕ) (rest : List ℕ) → 0 < n → n ≤ MAX_SIDE → Closes close
    → side_at end (text_tokens place (number_text n close ++ rest)) ≡ Ok (n, text_tokens (behind place n) rest)
unfolding side_at
side_again end place n close rest some most closes =
    let small : n < 2 ^ 64 = omega arith in
    let a : eqb n 0 ≡ false = grind (arith, nat_tests) in
    let b : ltb MAX_SIDE n ≡ false = grind (arith, nat_tests) in
    rw (number_again end place n close rest small closes, a, b) refl

pub sample_again : (end maxval place n close : ℕ) (rest : List ℕ) → n ≤ maxval → maxval ≤ 65535 → Closes close
    → sample_at end maxval (text_tokens place (number_text n close ++ rest)) ≡ Ok (record { place = place; value = n }, text_tokens (behind place n) rest)
unfolding sample_at
sample_again end maxval place n close rest below most closes =
    let small : n < 2 ^ 64 = omega arith in
    let a : ltb maxval n ≡ false = grind (arith, nat_tests) in
    rw (number_again end place n close rest small closes, a) refl

fits_parts : (maxval : ℕ) (rgb : Rgb) → fits maxval rgb ≡ true → (rgb.r ≤ maxval) × (rgb.g ≤ maxval) × (rgb.b ≤ maxval)
fits_parts maxval rgb h =
    let p = and_parts (leb rgb.r maxval) (leb rgb.g maxval && leb rgb.b maxval) h in
    let q = and_parts (leb rgb.g maxval) (leb rgb.b maxval) p.1 in
    (leb-true rgb.r maxval p.0, leb-true rgb.g maxval q.0, leb-true rgb.b maxval q.1)

-- where the text goes on after a triple
abbrev pub behind_triple : ℕ → Rgb → ℕ
behind_triple place rgb = behind (behind (behind place rgb.r) rgb.g) rgb.b

pub triple_again : (end maxval place : ℕ) (rgb : Rgb) (rest : List ℕ) → fits maxval rgb ≡ true → maxval ≤ 65535
    → samples_at end maxval (text_tokens place (triple_text rgb ++ rest)) ≡ Ok (record { place = place; colour = rgb }, text_tokens (behind_triple place rgb) rest)
unfolding samples_at
triple_again end maxval place rgb rest lawful most =
    let below = fits_parts maxval rgb lawful in
    let third : List ℕ = number_text rgb.b 10 ++ rest in
    let second : List ℕ = number_text rgb.g 32 ++ third in
    let regrouped : triple_text rgb ++ rest ≡ number_text rgb.r 32 ++ second = append_assoc (number_text rgb.r 32) (number_text rgb.g 32 ++ number_text rgb.b 10) rest
    ∙ ap (λ (x : List ℕ). number_text rgb.r 32 ++ x) (append_assoc (number_text rgb.g 32) (number_text rgb.b 10) rest) in
    ap (λ (text : List ℕ). samples_at end maxval (text_tokens place text)) regrouped
    ∙ bind_is (sample_at end maxval (text_tokens place (number_text rgb.r 32 ++ second))) (record { place = place; value = rgb.r }, text_tokens (behind place rgb.r) second)
    (λ r. sample_at end maxval r.1 >>= λ g. sample_at end maxval g.1 >>= λ b. Ok (record { place = r.0.place; colour = record { r = r.0.value; g = g.0.value; b = b.0.value } }, b.1))
    (sample_again end maxval place rgb.r 32 second below.0 most space_closes)
    ∙ bind_is (sample_at end maxval (text_tokens (behind place rgb.r) second)) (record { place = behind place rgb.r; value = rgb.g }, text_tokens (behind (behind place rgb.r) rgb.g) third)
    (λ g. sample_at end maxval g.1 >>= λ b. Ok (record { place = place; colour = record { r = rgb.r; g = g.0.value; b = b.0.value } }, b.1))
    (sample_again end maxval (behind place rgb.r) rgb.g 32 third below.1 most space_closes)
    ∙ bind_is (sample_at end maxval (text_tokens (behind (behind place rgb.r) rgb.g) third))
    (record { place = behind (behind place rgb.r) rgb.g; value = rgb.b }, text_tokens (behind_triple place rgb) rest)
    (λ b. Ok (record { place = place; colour = record { r = rgb.r; g = rgb.g; b = b.0.value } }, b.1))
    (sample_again end maxval (behind (behind place rgb.r) rgb.g) rgb.b 10 rest below.2 most line_end_closes)

pub palette_again : (background : Rgb) (end place maxval : ℕ) (rest : List ℕ) → 0 < maxval → maxval ≤ 65535 → fits maxval background ≡ true
    → palette_at (Some background) end (text_tokens place (number_text maxval 10 ++ rest)) ≡ Ok (only_background maxval background, text_tokens (behind place maxval) rest)
unfolding palette_at
palette_again background end place maxval rest some most lawful =
    let small : maxval < 2 ^ 64 = omega arith in
    let a : (eqb maxval 0 || ltb 65535 maxval) ≡ false = grind (arith, nat_tests) in
    rw (number_again end place maxval 10 rest small line_end_closes, a, lawful) refl
