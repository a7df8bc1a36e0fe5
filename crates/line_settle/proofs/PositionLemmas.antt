-- Sets of positions as masks: what is in them after `&`, `|`, shifts and additions.
use Rattle.std.proofs.Common.{◌≡◌, ℕ, zero, suc, ◌+◌, ◌*◌, ◌/◌, ◌%◌, ◌^◌, ◌<◌, ◌≤◌, Bool, false, ◌==◌, ◌&&◌, ◌||◌, bit_and, bit_or, bit_xor, refl, sym, ap, ◌∙◌, arith, inl, inr, eq-eqb, ne_eqb, max}
use Rattle.std.proofs.Common.{min, add-one}
use Rattle.std.proofs.lemmas.Bool.Decides.{nat_tests}
use Rattle.std.specs.Int.{bit_at}
use Rattle.std.proofs.Math.Bool.{and-false, and-true, and_assoc, and_comm, or-false}
use Rattle.std.proofs.lemmas.Bool.{cases_eq}
use Rattle.std.proofs.Math.Nat.{pow-succ', div-div-eq-div-mul, mod-eq_of_lt}
use Rattle.std.proofs.Math.Pow.{pow-lt}
use Rattle.std.proofs.lemmas.Nat.Bits.{shr_and_one, bit_at_lowest, bit_at-suc, bit_at_and, bit_at_or, bit_at_xor, bit_at-lt, bit_at-pow_same, bit_at-pow_other}
use Rattle.line_facts.specs.BitSets.{has}
use Rattle.line_settle.specs.Positions.{spans}
use Rattle.line_facts.proofs.BitSetLaws.{max_is_one}
use Rattle.line_facts.proofs.BitSetLaws.{has_bit, has_or, has_none, has_above, bit_low}

-- ---- numbers below 2 as tests

min_is_one : (a b : ℕ) → a < 2 → b < 2 → (min a b == 1) ≡ ((a == 1) && (b == 1))
min_is_one a b h i = grind (arith, nat_tests)

-- ---- sets

pub has_and : (a b i : ℕ) → has (bit_and a b) i ≡ (has a i && has b i)
unfolding has
has_and a b i = ap (λ x. x == 1) (bit_at_and a b i) ∙ min_is_one (bit_at a i) (bit_at b i) (bit_at-lt a i) (bit_at-lt b i)

pub has_power : (k i : ℕ) → has (2 ^ k) i ≡ (i == k)
unfolding has
has_power k i = elim (cases_eq i k) [
  | inl e ↦ ap (λ x. bit_at (2 ^ k) x == 1) e ∙ (ap (λ x. x == 1) (bit_at-pow_same k) ∙ sym (eq-eqb i k e))
  | inr n ↦ ap (λ x. x == 1) (bit_at-pow_other k i n) ∙ sym (ne_eqb i k n)
]

pub has_one : (i : ℕ) → has 1 i ≡ (i == 0)
has_one i = has_power 0 i

-- one position below the width
pub place_is : (width k : ℕ) → k < width → 1 * 2 ^ k % 2 ^ width ≡ 2 ^ k
place_is width k h =
    let one : 1 * 2 ^ k ≡ 2 ^ k = omega arith in
    ap (λ n. n % 2 ^ width) one ∙ mod-eq_of_lt (pow-lt h)

-- a shift to lower positions
bit_shifted : (s a i : ℕ) → bit_at (a / 2 ^ s) i ≡ bit_at a (i + s)
bit_shifted zero a i =
    let e : a / 2 ^ 0 ≡ a = omega arith in
    let z : i ≡ i + 0 = omega arith in
    ap (λ x. bit_at x i) e ∙ ap (λ n. bit_at a n) z
bit_shifted (suc s) a i =
    let e : a / 2 ^ suc s ≡ (a / 2) / 2 ^ s = ap (λ n. a / n) (pow-succ' 2 s) ∙ sym (div-div-eq-div-mul a 2 (2 ^ s)) in
    let z : suc (i + s) ≡ i + suc s = omega arith in
    ap (λ x. bit_at x i) e ∙ (bit_shifted s (a / 2) i ∙ (sym (bit_at-suc a (i + s)) ∙ ap (λ n. bit_at a n) z))

pub has_down : (s a i : ℕ) → has (a / 2 ^ s) i ≡ has a (i + s)
has_down s a i = has_bit (a / 2 ^ s) a i (i + s) (bit_shifted s a i)

-- a shift to the next position
bit_doubled_first : (a : ℕ) → bit_at (a * 2) 0 ≡ 0
bit_doubled_first a = bit_at_lowest (a * 2) ∙ (omega arith)

bit_doubled : (a i : ℕ) → bit_at (a * 2) (suc i) ≡ bit_at a i
bit_doubled a i = bit_at-suc (a * 2) i ∙ ap (λ x. bit_at x i) (let e : a * 2 / 2 ≡ a = omega arith in e)

pub none_moved_up : (w a : ℕ) → 0 < w → has (a * 2 % 2 ^ w) 0 ≡ false
unfolding has
none_moved_up w a h = ap (λ x. x == 1) (bit_low w (a * 2) 0 h ∙ bit_doubled_first a)

pub moved_up : (w a i : ℕ) → i + 1 < w → has (a * 2 % 2 ^ w) (suc i) ≡ has a i
moved_up w a i h = has_bit (a * 2 % 2 ^ w) a (suc i) i (bit_low w (a * 2) (suc i) (omega arith) ∙ bit_doubled a i)

-- ---- the carries of an addition

carried : ℕ → ℕ → ℕ → ℕ → ℕ
carried c a b zero = c
carried c a b (suc i) = carried ((a % 2 + b % 2 + c) / 2) (a / 2) (b / 2) i

carried_below : (i c a b : ℕ) → c < 2 → carried c a b i < 2
unfolding carried
carried_below zero c a b h = h
carried_below (suc i) c a b h = carried_below i ((a % 2 + b % 2 + c) / 2) (a / 2) (b / 2) (omega arith)

sum_bit : (i c a b : ℕ) → bit_at (a + b + c) i ≡ (bit_at a i + bit_at b i + carried c a b i) % 2
unfolding carried
sum_bit zero c a b = bit_at_lowest (a + b + c) ∙ (let u = bit_at_lowest a in let v = bit_at_lowest b in omega arith)
sum_bit (suc i) c a b =
    let d = (a % 2 + b % 2 + c) / 2 in
    let e : (a + b + c) / 2 ≡ a / 2 + b / 2 + d = omega arith in
    bit_at-suc (a + b + c) i ∙ (ap (λ x. bit_at x i) e ∙ (sum_bit i d (a / 2) (b / 2)
    ∙ (let u = bit_at-suc a i in let v = bit_at-suc b i in cc)))

carried_more : (i c a b : ℕ) → carried c a b (suc i) ≡ (bit_at a i + bit_at b i + carried c a b i) / 2
unfolding carried
carried_more zero c a b = let u = bit_at_lowest a in let v = bit_at_lowest b in cc
carried_more (suc i) c a b =
    let u = bit_at-suc a i in
    let v = bit_at-suc b i in
    let w = carried_more i ((a % 2 + b % 2 + c) / 2) (a / 2) (b / 2) in
    cc

-- what the carries of `(from & run) + run` reach, besides the set itself
abbrev pub risen : ℕ → ℕ → ℕ → ℕ
risen w from run = bit_or from (bit_xor (bit_xor ((bit_and from run + run) % 2 ^ w) (bit_and from run)) run)

risen_bit : (w from run i : ℕ) → i < w → bit_at (risen w from run) i ≡ max (bit_at from i) (carried 0 (bit_and from run) run i)
risen_bit w from run i h =
    let begun = bit_and from run in
    let total = (begun + run) % 2 ^ w in
    let a = bit_at_or from (bit_xor (bit_xor total begun) run) i in
    let b = bit_at_xor (bit_xor total begun) run i in
    let d = bit_at_xor total begun i in
    let e = bit_low w (begun + run) i h in
    let z : begun + run + 0 ≡ begun + run = omega arith in
    let s = ap (λ x. bit_at x i) (sym z) ∙ sum_bit i 0 begun run in
    let l = carried_below i 0 begun run (omega arith) in
    let f = bit_at-lt begun i in
    let g = bit_at-lt run i in
    let k : bit_at (bit_xor (bit_xor total begun) run) i ≡ carried 0 begun run i = omega arith in
    a ∙ ap (λ x. max (bit_at from i) x) k

first_carry : (from a b : ℕ) → max (bit_at from 0) (carried 0 a b 0) ≡ bit_at from 0
unfolding carried
first_carry from a b = omega arith

pub risen_first : (w from run : ℕ) → 0 < w → has (risen w from run) 0 ≡ has from 0
risen_first w from run h = has_bit (risen w from run) from 0 0 (risen_bit w from run 0 h ∙ first_carry from (bit_and from run) run)

carry_on : (s r c : ℕ) → s < 2 → r < 2 → c < 2 → (min s r + r + c) / 2 ≡ min r (max s c)
carry_on s r c h i j = omega arith

risen_suc : (w from run i : ℕ) → i + 1 < w → has (risen w from run) (suc i) ≡ (has from (suc i) || (has run i && has (risen w from run) i))
unfolding has
risen_suc w from run i h =
    let begun = bit_and from run in
    let c = carried 0 begun run i in
    let l = carried_below i 0 begun run (omega arith) in
    let x = bit_at (risen w from run) i in
    let here : x ≡ max (bit_at from i) c = risen_bit w from run i (omega arith) in
    let m = carried_more i 0 begun run in
    let n = bit_at_and from run i in
    let k = carry_on (bit_at from i) (bit_at run i) c (bit_at-lt from i) (bit_at-lt run i) l in
    let up : carried 0 begun run (suc i) ≡ min (bit_at run i) x = omega arith in
    let more : bit_at (risen w from run) (suc i) ≡ max (bit_at from (suc i)) (min (bit_at run i) x) = risen_bit w from run (suc i) (omega arith) ∙ ap (λ y. max (bit_at from (suc i)) y) up in
    let p = bit_at-lt run i in
    let q = bit_at-lt (risen w from run) i in
    ap (λ y. y == 1) more
    ∙ (max_is_one (bit_at from (suc i)) (min (bit_at run i) x) (bit_at-lt from (suc i)) (omega arith)
    ∙ ap (λ y. (bit_at from (suc i) == 1) || y) (min_is_one (bit_at run i) x p q))

pub risen_on : (w from run i : ℕ) → i + 1 < w → has (risen w from run) (i + 1) ≡ (has from (i + 1) || (has run i && has (risen w from run) i))
risen_on w from run i h = rw add-one (risen_suc w from run i h)

-- ---- what reaches a set over fewer than n cells

abbrev pub fills : (ℕ → Bool) → (ℕ → Bool) → ℕ → ℕ → Bool
fills f r zero i = false
fills f r (suc n) i = f i || (r i && fills f r n (i + 1))

spread : (f r a l b : Bool) → (f || (r && (a || (l && b)))) ≡ ((f || (r && a)) || ((r && l) && b))
spread f r a l b = grind (arith, nat_tests)

apart : (i n : ℕ) → i + 1 + n ≡ i + suc n
apart i n = omega arith

pub fills_more : (f r : ℕ → Bool) (a b i : ℕ) → fills f r (a + b) i ≡ (fills f r a i || (spans r a i && fills f r b (i + a)))
fills_more f r zero b i = ap (λ n. fills f r n i) (let e : zero + b ≡ b = omega arith in e) ∙ ap (λ n. fills f r b n) (let e : i ≡ i + zero = omega arith in e)
fills_more f r (suc a) b i =
    let e : suc a + b ≡ suc (a + b) = omega arith in
    rw (e, fills_more f r a b (i + 1), apart i a) (spread (f i) (r i) (fills f r a (i + 1)) (spans r a (i + 1)) (fills f r b (i + suc a)))

pub spans_more : (r : ℕ → Bool) (a b i : ℕ) → spans r (a + b) i ≡ (spans r a i && spans r b (i + a))
spans_more r zero b i = ap (λ n. spans r n i) (let e : zero + b ≡ b = omega arith in e) ∙ ap (λ n. spans r b n) (let e : i ≡ i + zero = omega arith in e)
spans_more r (suc a) b i =
    let e : suc a + b ≡ suc (a + b) = omega arith in
    rw (e, spans_more r a b (i + 1), apart i a) (sym (and_assoc (r i) (spans r a (i + 1)) (spans r b (i + suc a))))

-- where nothing lies from w on, w cells are enough
fills_enough : (f r : ℕ → Bool) (w : ℕ) → ((j : ℕ) → w ≤ j → f j ≡ false) → (n i : ℕ) → w ≤ i + n → fills f r (suc n) i ≡ fills f r n i
fills_enough f r w past zero i h = rw (past i (omega arith), and-false) refl
fills_enough f r w past (suc n) i h = rw (fills_enough f r w past n (i + 1) (omega arith)) refl

pub filled : (w set run all n i : ℕ) → set < 2 ^ w → w ≤ n → ((j : ℕ) → has all j ≡ fills (has set) (has run) n j) → has all i ≡ (has set i || (has run i && has all (i + 1)))
filled w set run all n i h l is =
    let past = λ (j : ℕ) (m : w ≤ j). has_above w set j h m in
    rw (is i, is (i + 1)) (sym (fills_enough (has set) (has run) w past n i (omega arith)))

-- where no n cells in a row are in the run, what reaches the set over fewer is all that does
pub filled_short : (set run all runs n i : ℕ) → runs ≡ 0 → ((j : ℕ) → has runs j ≡ spans (has run) n j) → ((j : ℕ) → has all j ≡ fills (has set) (has run) n j)
    → has all i ≡ (has set i || (has run i && has all (i + 1)))
filled_short set run all runs n i none spanned is =
    let e : suc n ≡ n + 1 = omega arith in
    let no_span : spans (has run) n i ≡ false = sym (spanned i) ∙ (ap (λ m. has m i) none ∙ has_none i) in
    let more : fills (has set) (has run) (suc n) i ≡ fills (has set) (has run) n i = ap (λ m. fills (has set) (has run) m i) e ∙ (rw (fills_more (has set) (has run) n 1 i, no_span) (or-false _)) in
    rw (is i, is (i + 1)) (sym more)

pub fills_one : (set run i : ℕ) → has set i ≡ fills (has set) (has run) 1 i
fills_one set run i = sym (rw (and-false, or-false) refl)

pub spans_one : (run i : ℕ) → has run i ≡ spans (has run) 1 i
spans_one run i = sym (and-true (has run i))

pub fills_twice : (set run all runs s i : ℕ) → ((j : ℕ) → has all j ≡ fills (has set) (has run) s j) → ((j : ℕ) → has runs j ≡ spans (has run) s j)
    → has (bit_or all (bit_and (all / 2 ^ s) runs)) i ≡ fills (has set) (has run) (s + s) i
fills_twice set run all runs s i f g =
    rw (has_or, has_and, and_comm (has (all / 2 ^ s) i) (has runs i), has_down, f i, g i, f (i + s)) (sym (fills_more (has set) (has run) s s i))

pub spans_twice : (run runs s i : ℕ) → ((j : ℕ) → has runs j ≡ spans (has run) s j) → has (bit_and runs (runs / 2 ^ s)) i ≡ spans (has run) (s + s) i
spans_twice run runs s i g = rw (has_and, has_down, g i, g (i + s)) (sym (spans_more (has run) s s i))

-- ---- the next position

pub up_next : (w a j : ℕ) → j + 1 < w → has (a * 2 % 2 ^ w) (j + 1) ≡ has a j
up_next w a j h = rw add-one (moved_up w a j h)

-- the lowest bit as it is tested
lowest : (a : ℕ) → (bit_and a 1 == 1) ≡ has a 0
unfolding has
lowest a = ap (λ x. x == 1) (let e : a ≡ a / 2 ^ 0 = omega arith in ap (λ x. bit_and x 1) e ∙ shr_and_one a 0)

-- the same among the lowest eight bits
pub lowest_of_eight : (a : ℕ) → (bit_and (bit_and a 255) 1 == 1) ≡ has a 0
unfolding has
lowest_of_eight a = lowest (bit_and a 255) ∙ (has_and a 255 0 ∙ and-true (has a 0))
