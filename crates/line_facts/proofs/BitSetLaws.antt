-- Sets as the bits of one number: what is in them after `|` and shifts, and sets that are gathered part by part.
use Rattle.std.proofs.Common.{◌≡◌, ℕ, ◌+◌, ◌-◌, ◌*◌, ◌/◌, ◌%◌, ◌^◌, ◌<◌, ◌≤◌, Bool, true, false, cond, List, ◌==◌, ◌||◌, bit_or, refl, sym, ap, ◌∙◌, arith, inl, inr, get_or, max}
use Rattle.std.proofs.lemmas.Bool.Decides.{nat_tests}
use Rattle.std.specs.Int.{bit_at}
use Rattle.std.specs.Simd.Lanes.{mask_l}
use Rattle.std.proofs.Math.Bool.{or-false}
use Rattle.std.proofs.Math.Nat.{div-add-mod, mul_comm}
use Rattle.std.proofs.lemmas.Bool.{cases_lt}
use Rattle.std.proofs.lemmas.Nat.Bits.{bit_at_or, bit_at-lt, bit_at-zero, bit_at_above, bit_at_cat_low, bit_at_cat_high}
use Rattle.std.proofs.lemmas.Simd.{bit_mask_l}
use Rattle.line_facts.specs.BitSets.{has}

-- a number below 2 as a test
pub max_is_one : (a b : ℕ) → a < 2 → b < 2 → (max a b == 1) ≡ ((a == 1) || (b == 1))
max_is_one a b h i = grind (arith, nat_tests)

pub has_bit : (a b i j : ℕ) → bit_at a i ≡ bit_at b j → has a i ≡ has b j
unfolding has
has_bit a b i j e = ap (λ x. x == 1) e

pub has_or : (a b i : ℕ) → has (bit_or a b) i ≡ (has a i || has b i)
unfolding has
has_or a b i = ap (λ x. x == 1) (bit_at_or a b i) ∙ max_is_one (bit_at a i) (bit_at b i) (bit_at-lt a i) (bit_at-lt b i)

pub has_none : (i : ℕ) → has 0 i ≡ false
unfolding has
has_none i = ap (λ x. x == 1) (bit_at-zero i)

pub has_above : (w a i : ℕ) → a < 2 ^ w → w ≤ i → has a i ≡ false
unfolding has
has_above w a i h l = ap (λ x. x == 1) (bit_at_above a w i h l)

-- the low w bits
pub bit_low : (w x i : ℕ) → i < w → bit_at (x % 2 ^ w) i ≡ bit_at x i
bit_low w x i h =
    let e : (x / 2 ^ w) * 2 ^ w + x % 2 ^ w ≡ x = ap (λ n. n + x % 2 ^ w) (mul_comm (x / 2 ^ w) (2 ^ w)) ∙ div-add-mod x (2 ^ w) in
    sym (bit_at_cat_low (x / 2 ^ w) w (x % 2 ^ w) i h) ∙ ap (λ y. bit_at y i) e

-- ---- a shift by s places to higher numbers, in w bits

nothing_added : (n : ℕ) → n ≡ n + 0
nothing_added n = omega arith

pub below_shifted : (w s a i : ℕ) → i < s → i < w → has (a * 2 ^ s % 2 ^ w) i ≡ false
below_shifted w s a i h l =
    has_bit (a * 2 ^ s % 2 ^ w) 0 i i (bit_low w (a * 2 ^ s) i l ∙ (ap (λ y. bit_at y i) (nothing_added (a * 2 ^ s)) ∙ bit_at_cat_low a s 0 i h))
    ∙ has_none i

pub shifted : (w s a i : ℕ) → 0 < 2 ^ s → s ≤ i → i < w → has (a * 2 ^ s % 2 ^ w) i ≡ has a (i - s)
shifted w s a i p h l =
    has_bit (a * 2 ^ s % 2 ^ w) a i (i - s) (bit_low w (a * 2 ^ s) i l ∙ (ap (λ y. bit_at y i) (nothing_added (a * 2 ^ s)) ∙ bit_at_cat_high a s 0 i p h))

-- ---- s more tests before those that are gathered already

pub gathered_more : (w s : ℕ) (test : ℕ → Bool) (cells low here next : ℕ) → next ≡ here + s → low < 2 ^ s → ((j : ℕ) → j < s → has low j ≡ test (here + j))
    → ((j : ℕ) → j < w → has cells j ≡ test (next + j)) → (j : ℕ) → j < w → has (bit_or (cells * 2 ^ s % 2 ^ w) low) j ≡ test (here + j)
gathered_more w s test cells low here next e small new before j h = has_or (cells * 2 ^ s % 2 ^ w) low j ∙ elim (cases_lt j s) [
  | inl l ↦ rw (below_shifted w s cells j l h) (new j l)
  | inr m ↦
      let q : next + (j - s) ≡ here + j = omega arith in
      rw (has_above s low j small m, or-false, shifted w s cells j (omega arith) m h, before (j - s) (omega arith), q) refl
]

pub has_mask : (ms : List Bool) (i : ℕ) → has (mask_l ms) i ≡ get_or ms i false
unfolding has
has_mask ms i = ap (λ n. n == 1) (bit_mask_l ms i) ∙ told (get_or ms i false)
  where
    told : (b : Bool) → (cond b 1 0 == 1) ≡ b
    told true = refl
    told false = refl
