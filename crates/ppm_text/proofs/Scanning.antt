-- The scanner's loops over a text: each step leaves the tokens to come as they were.
use Rattle.std.proofs.Common.{◌≡◌, ◌≢◌, ℕ, ◌+◌, ◌<◌, ◌≤◌, Bool, true, false, not, ◌&&◌, ◌||◌, cond, eqb, List, [], ◌∷◌, length, get_or, drop, refl, sym, ap, ◌∙◌, add-one, arith}
use Rattle.std.specs.Char.{is_ascii_digit}
use Rattle.std.specs.List.{take_while}
use Rattle.std.proofs.lemmas.Bool.{or_parts}
use Rattle.std.proofs.lemmas.Bool.Decides.{nat_tests}
use Rattle.std.proofs.lemmas.List.{at_drop_more, at_drop_all}
use Rattle.std.proofs.lemmas.List.Sums.{take_while-cons}
use Rattle.ppm_text.specs.Tokens.{tokens_at, tokens_from, without_comments, is_gap, is_space, is_line_end, in_comment}

line_ends_are_space : (b : ℕ) → is_line_end b ≡ true → is_space b ≡ true
line_ends_are_space b h = grind (arith, nat_tests)

some_true : (commented opens ends space : Bool) → (ends ≡ true → space ≡ true) → (commented || (space || opens)) ≡ true → cond ((commented || opens) && not ends) true space ≡ true
some_true true opens true space e h = e refl
some_true true opens false space e h = refl
some_true false true true space e h = e refl
some_true false true false space e h = refl
some_true false false true space e h = e refl
some_true false false false true e h = refl
some_true false false false false e h = h

is_space-cond : (t : Bool) (b : ℕ) → is_space (cond t 32 b) ≡ cond t true (is_space b)
is_space-cond true b = refl
is_space-cond false b = refl

-- inside a comment or at a gap, the text without comments has white space
space_there : (commented : Bool) (b : ℕ) → (commented || is_gap b) ≡ true → is_space (cond (in_comment commented b) 32 b) ≡ true
space_there commented b h =
    is_space-cond (in_comment commented b) b ∙ some_true commented (eqb b 35) (is_line_end b) (is_space b) (line_ends_are_space b) h

skips : (commented : Bool) (place b : ℕ) (rest : List ℕ) → (commented || is_gap b) ≡ true
    → tokens_from false place (without_comments commented (b ∷ rest)) ≡ tokens_from false (place + 1) (without_comments (in_comment commented b) rest)
skips commented place b rest h = rw (space_there commented b h, add-one) refl

-- a byte of a gap is stepped over
skip_step : (bytes : List ℕ) (at : ℕ) (commented : Bool) → at < length bytes → (commented || is_gap (get_or bytes at 0)) ≡ true
    → tokens_from false (at + 1) (without_comments (in_comment commented (get_or bytes at 0)) (drop (at + 1) bytes)) ≡ tokens_from false at (without_comments commented (drop at bytes))
skip_step bytes at commented lt h =
    sym (at_drop_more (λ bs. tokens_from false at (without_comments commented bs)) bytes at 0 lt ∙ skips commented at (get_or bytes at 0) (drop (at + 1) bytes) h)

skip_as : (bytes : List ℕ) (at : ℕ) (before after : Bool) → at < length bytes → (before || is_gap (get_or bytes at 0)) ≡ true → in_comment before (get_or bytes at 0) ≡ after
    → tokens_from false (at + 1) (without_comments after (drop (at + 1) bytes)) ≡ tokens_from false at (without_comments before (drop at bytes))
skip_as bytes at before after lt h e = ap (λ t. tokens_from false (at + 1) (without_comments t (drop (at + 1) bytes))) (sym e) ∙ skip_step bytes at before lt h

-- a digit opens no gap
pub no_gap : (b : ℕ) → is_ascii_digit b ≡ true → is_gap b ≡ false
no_gap b h = grind (arith, nat_tests)

-- white space
pub space_skipped : (bytes : List ℕ) (at : ℕ) → at < length bytes → is_gap (get_or bytes at 0) ≡ true → get_or bytes at 0 ≢ 35 → tokens_at bytes (at + 1) ≡ tokens_at bytes at
space_skipped bytes at lt h other = skip_as bytes at false false lt h (opens_none (get_or bytes at 0) other) where
  opens_none : (b : ℕ) → b ≢ 35 → in_comment false b ≡ false
  opens_none b other = grind (arith, nat_tests)

-- the # that opens a comment
pub comment_opens : (bytes : List ℕ) (at : ℕ) → at < length bytes → get_or bytes at 0 ≡ 35
    → tokens_from false (at + 1) (without_comments true (drop (at + 1) bytes)) ≡ tokens_at bytes at
comment_opens bytes at lt h = skip_as bytes at false true lt (ap is_gap h) (ap (in_comment false) h)

-- a byte of a comment
pub comment_goes_on : (bytes : List ℕ) (at : ℕ) → at < length bytes → is_line_end (get_or bytes at 0) ≡ false
    → tokens_from false (at + 1) (without_comments true (drop (at + 1) bytes)) ≡ tokens_from false at (without_comments true (drop at bytes))
comment_goes_on bytes at lt h = skip_as bytes at true true lt refl (ap not h)

-- the line end that closes one
pub comment_ends : (bytes : List ℕ) (at : ℕ) → at < length bytes → is_line_end (get_or bytes at 0) ≡ true
    → tokens_at bytes at ≡ tokens_from false at (without_comments true (drop at bytes))
comment_ends bytes at lt h =
    let gap : is_gap (get_or bytes at 0) ≡ true = rw (line_ends_are_space (get_or bytes at 0) h) refl in
    let closed : in_comment false (get_or bytes at 0) ≡ false = grind (arith, nat_tests) in
    sym (skip_as bytes at false false lt gap closed) ∙ skip_as bytes at true false lt refl (ap not h)

-- the end of the text
pub last_comment_ends : (bytes : List ℕ) (at : ℕ) → length bytes ≤ at → tokens_at bytes at ≡ tokens_from false at (without_comments true (drop at bytes))
last_comment_ends bytes at le = at_drop_all (λ bs. tokens_from false at (without_comments false bs)) bytes at le ∙ sym (at_drop_all (λ bs. tokens_from false at (without_comments true bs)) bytes at le)

pub ruleset scanning = (nat_tests, no_gap, space_skipped, comment_opens, comment_goes_on, comment_ends, last_comment_ends)

-- outside of comments and gaps a byte is left as it is
pub gap_parts : (b : ℕ) → is_gap b ≡ false → (is_space b ≡ false) × (eqb b 35 ≡ false)
gap_parts b h = or_parts (is_space b) (eqb b 35) h

pub no_comment : (b : ℕ) → is_gap b ≡ false → in_comment false b ≡ false
no_comment b h = rw (gap_parts b h).1 refl

-- the token's bytes are those up to the next gap
by_gap : (b : ℕ) (rest : List ℕ) (gap : Bool) → is_gap b ≡ gap → take_while (λ x. not (is_space x)) (without_comments false rest) ≡ take_while (λ x. not (is_gap x)) rest
    → take_while (λ x. not (is_space x)) (without_comments false (b ∷ rest)) ≡ take_while (λ x. not (is_gap x)) (b ∷ rest)
by_gap b rest true h others =
    let head = cond (in_comment false b) 32 b in
    let left : take_while (λ x. not (is_space x)) (without_comments false (b ∷ rest)) ≡ [] = take_while-cons (λ x. not (is_space x)) head (without_comments (in_comment false b) rest)
    ∙ ap (λ t. cond (not t) (head ∷ take_while (λ x. not (is_space x)) (without_comments (in_comment false b) rest)) []) (space_there false b h) in
    let right : take_while (λ x. not (is_gap x)) (b ∷ rest) ≡ [] = take_while-cons (λ x. not (is_gap x)) b rest ∙ ap (λ t. cond (not t) (b ∷ take_while (λ x. not (is_gap x)) rest) []) h in
    left ∙ sym right
by_gap b rest false h others =
    let outside : without_comments false (b ∷ rest) ≡ b ∷ without_comments false rest = ap (λ t. cond t 32 b ∷ without_comments t rest) (no_comment b h) in
    let left : take_while (λ x. not (is_space x)) (b ∷ without_comments false rest) ≡ b ∷ take_while (λ x. not (is_space x)) (without_comments false rest) =
    take_while-cons (λ x. not (is_space x)) b (without_comments false rest) ∙ ap (λ t. cond (not t) (b ∷ take_while (λ x. not (is_space x)) (without_comments false rest)) []) (gap_parts b h).0 in
    let right : take_while (λ x. not (is_gap x)) (b ∷ rest) ≡ b ∷ take_while (λ x. not (is_gap x)) rest = take_while-cons (λ x. not (is_gap x)) b rest
    ∙ ap (λ t. cond (not t) (b ∷ take_while (λ x. not (is_gap x)) rest) []) h in
    ap (take_while (λ x. not (is_space x))) outside ∙ left ∙ ap (λ (xs : List ℕ). b ∷ xs) others ∙ sym right

token_bytes : (bytes : List ℕ) → take_while (λ b. not (is_space b)) (without_comments false bytes) ≡ take_while (λ b. not (is_gap b)) bytes
token_bytes [] = refl
token_bytes (b ∷ rest) = by_gap b rest (is_gap b) refl (token_bytes rest)

-- a byte that is not a gap begins a token
pub token_begins : (bytes : List ℕ) (place : ℕ) → place < length bytes → is_gap (get_or bytes place 0) ≡ false
    → tokens_at bytes place ≡ record { place = place; bytes = take_while (λ b. not (is_gap b)) (drop place bytes) } ∷ tokens_from true place (without_comments false (drop place bytes))
token_begins bytes place lt h =
    let b = get_or bytes place 0 in
    let rest = drop (place + 1) bytes in
    let whole = at_drop_more (λ bs. tokens_from false place (without_comments false bs)) bytes place 0 lt in
    let outside : without_comments false (b ∷ rest) ≡ b ∷ without_comments false rest = ap (λ t. cond t 32 b ∷ without_comments t rest) (no_comment b h) in
    let one : tokens_from false place (b ∷ without_comments false rest) ≡ record { place = place; bytes = take_while (λ x. not (is_space x)) (b ∷ without_comments false rest) }
    ∷ tokens_from true place (b ∷ without_comments false rest) = rw (gap_parts b h).0 refl in
    let same : tokens_from false place (without_comments false (b ∷ rest))
    ≡ record { place = place; bytes = take_while (λ x. not (is_gap x)) (b ∷ rest) } ∷ tokens_from true place (without_comments false (b ∷ rest)) =
    ap (tokens_from false place) outside ∙ one ∙ ap (λ (bs : List ℕ). record { place = place; bytes = take_while (λ x. not (is_space x)) bs } ∷ tokens_from true place bs) (sym outside)
    ∙ ap (λ (bs : List ℕ). record { place = place; bytes = bs } ∷ tokens_from true place (without_comments false (b ∷ rest))) (token_bytes (b ∷ rest)) in
    whole ∙ same ∙ sym (at_drop_more (λ bs. record { place = place; bytes = take_while (λ x. not (is_gap x)) bs } ∷ tokens_from true place (without_comments false bs)) bytes place 0 lt)

-- a token ends at a gap, and at the end of the text
pub token_ends : (bytes : List ℕ) (at : ℕ) → at < length bytes → is_gap (get_or bytes at 0) ≡ true → tokens_from true at (without_comments false (drop at bytes)) ≡ tokens_at bytes at
token_ends bytes at lt h =
    let space = space_there false (get_or bytes at 0) h in
    let one : tokens_from true at (without_comments false (get_or bytes at 0 ∷ drop (at + 1) bytes)) ≡ tokens_from false at (without_comments false (get_or bytes at 0 ∷ drop (at + 1) bytes)) =
    rw space refl in
    at_drop_more (λ bs. tokens_from true at (without_comments false bs)) bytes at 0 lt ∙ one ∙ sym (at_drop_more (λ bs. tokens_from false at (without_comments false bs)) bytes at 0 lt)

pub last_token_ends : (bytes : List ℕ) (at : ℕ) → length bytes ≤ at → tokens_from true at (without_comments false (drop at bytes)) ≡ tokens_at bytes at
last_token_ends bytes at le = at_drop_all (λ bs. tokens_from true at (without_comments false bs)) bytes at le ∙ sym (at_drop_all (λ bs. tokens_from false at (without_comments false bs)) bytes at le)
