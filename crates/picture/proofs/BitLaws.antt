-- Laws of the bits of a mask: which are set, when two masks are equal, and how many bits are set.
use Rattle.std.proofs.Common.{◌≡◌, ◌≢◌, ℕ, zero, suc, ◌+◌, ◌/◌, ◌^◌, ◌<◌, ◌≤◌, refl, sym, ap, ◌∙◌, subst, inl, inr, arith}
use Rattle.std.specs.Prelude.{IsBitSet, ◌⊎◌, ◌↔◌, bit_and, count_ones}
use Rattle.std.specs.Int.{bit_at}
use Rattle.std.specs.Int.Count.{ones_step}
use Rattle.std.proofs.lemmas.Bool.{cases_lt, cases_eq}
use Rattle.std.proofs.lemmas.Nat.{bit_set_by_shift, and_le_r, ones_le_self}
use Rattle.std.proofs.Math.Nat.{pow-suc}
use Rattle.std.proofs.lemmas.Nat.Bits.{shr_and_one, bit_at_and, bit_at_above, bit_at-zero, bit_at-suc, bit_at-lt, bit_at_lowest, bit_at-pow_same, bit_at-pow_other, same_from_bits}

-- a bit is set exactly where it is 1
pub set_bit : (n k : ℕ) → IsBitSet n k → bit_at n k ≡ 1
set_bit n k is = sym (shr_and_one n k) ∙ (bit_set_by_shift n k).1 is

pub bit_is_set : (n k : ℕ) → bit_at n k ≡ 1 → IsBitSet n k
bit_is_set n k one = (bit_set_by_shift n k).0 (shr_and_one n k ∙ one)

pub no_bit : (k : ℕ) → IsBitSet 0 k → ⊥
no_bit k is = let one = set_bit 0 k is in let none = bit_at-zero k in absurd (omega arith)

pub bit_or_not : (n k : ℕ) → IsBitSet n k ⊎ ¬ IsBitSet n k
bit_or_not n k = grind (arith, bit_at, bit_is_set, set_bit)

pub bit_below : (n width k : ℕ) → n < 2 ^ width → IsBitSet n k → k < width
bit_below n width k small is = elim (cases_lt k width) [
  | inl lt ↦ lt
  | inr past ↦ let one = set_bit n k is in let none = bit_at_above n width k small past in absurd (omega arith)
]

-- a power of two has one bit
pub power_has : (k j : ℕ) → IsBitSet (2 ^ k) j ↔ (j ≡ k)
power_has k j = (
  (λ s. elim (cases_eq j k) [
    | inl e ↦ e
    | inr n ↦ let e = set_bit (2 ^ k) j s in let z = bit_at-pow_other k j n in absurd (omega arith)
  ]),
  (λ e. bit_is_set (2 ^ k) j (ap (bit_at (2 ^ k)) e ∙ bit_at-pow_same k)),
)

-- masks with the same bits are equal
pub same_bits : (a b : ℕ) → ((k : ℕ) → IsBitSet a k ↔ IsBitSet b k) → a ≡ b
same_bits a b same = same_from_bits a b each
  where
    each : (k : ℕ) → bit_at a k ≡ bit_at b k
    each k = elim (bit_or_not a k) [
      | inl is ↦ set_bit a k is ∙ sym (set_bit b k ((same k).0 is))
      | inr isnt ↦
          let in_a : bit_at a k ≢ 1 = λ e. isnt (bit_is_set a k e) in
          let in_b : bit_at b k ≢ 1 = λ e. isnt ((same k).1 (bit_is_set b k e)) in
          omega (arith, bit_at-lt a k, bit_at-lt b k)
    ]

-- masks of one width with the same bits below it are equal
pub same_bits_below : (width a b : ℕ) → a < 2 ^ width → b < 2 ^ width → ((k : ℕ) → k < width → IsBitSet a k ↔ IsBitSet b k) → a ≡ b
same_bits_below width a b small_a small_b same =
    same_bits a b (λ k. ((λ is. (same k (bit_below a width k small_a is)).0 is), (λ is. (same k (bit_below b width k small_b is)).1 is)))

-- a mask whose bits are among another's is at most that number
pub fewer_le : (a b : ℕ) → ((k : ℕ) → IsBitSet a k → IsBitSet b k) → a ≤ b
fewer_le a b h =
    let e : bit_and a b ≡ a = same_bits (bit_and a b) a (λ k. (
      (λ s. let x = set_bit (bit_and a b) k s in let y = bit_at_and a b k in let l = bit_at-lt a k in let m = bit_at-lt b k in bit_is_set a k (omega arith)),
      (λ s. let x = set_bit a k s in let z = set_bit b k (h k s) in let y = bit_at_and a b k in bit_is_set (bit_and a b) k (omega arith)),
    )) in
    omega (arith, and_le_r a b)

-- ---- how many bits there are

-- one bit that changes from 0 to 1 counts one more
one_more : (k a b : ℕ) → bit_at a k ≡ 0 → bit_at b k ≡ 1 → ((i : ℕ) → i ≢ k → bit_at a i ≡ bit_at b i) → count_ones b ≡ suc (count_ones a)
one_more zero a b none one others =
    let half : a / 2 ≡ b / 2 = same_from_bits (a / 2) (b / 2) (λ i. sym (bit_at-suc a i) ∙ others (suc i) (λ e. absurd (omega arith)) ∙ bit_at-suc b i) in
    let same = ap count_ones half in
    omega (arith, ones_step a, ones_step b, bit_at_lowest a, bit_at_lowest b, same)
one_more (suc k) a b none one others =
    let more = one_more k (a / 2) (b / 2) (sym (bit_at-suc a k) ∙ none) (sym (bit_at-suc b k) ∙ one) (λ i other. sym (bit_at-suc a i) ∙ others (suc i) (λ e. other (omega arith)) ∙ bit_at-suc b i) in
    let low : bit_at a 0 ≡ bit_at b 0 = others 0 (λ e. absurd (omega arith)) in
    omega (arith, ones_step a, ones_step b, bit_at_lowest a, bit_at_lowest b, more, low)

-- a bit that was not there makes one bit more
pub bits_more : (k a b : ℕ) → ¬ IsBitSet a k → ((i : ℕ) → IsBitSet b i ↔ (IsBitSet a i ⊎ (i ≡ k))) → count_ones b ≡ count_ones a + 1
bits_more k a b absent puts = let more = one_more k a b none one others in omega arith
  where
    none : bit_at a k ≡ 0
    none = let other : bit_at a k ≢ 1 = λ e. absent (bit_is_set a k e) in omega (arith, bit_at-lt a k)

    one : bit_at b k ≡ 1
    one = set_bit b k ((puts k).1 (inr refl))

    others : (i : ℕ) → i ≢ k → bit_at a i ≡ bit_at b i
    others i other = grind (arith, bit_at, bit_at-lt, bit_is_set, bit_or_not, set_bit)

-- a bit that was there and is cleared makes one bit less
pub bits_fewer : (k a b : ℕ) → IsBitSet a k → ((i : ℕ) → IsBitSet b i ↔ (IsBitSet a i × ¬ (i ≡ k))) → count_ones b + 1 ≡ count_ones a
bits_fewer k a b there takes = sym (bits_more k b a (λ is. ((takes k).0 is).1 refl) back)
  where
    back : (i : ℕ) → IsBitSet a i ↔ (IsBitSet b i ⊎ (i ≡ k))
    back i = (
      (λ is. elim (cases_eq i k) [ inl e ↦ inr e | inr other ↦ inl ((takes i).1 (is, other)) ]),
      (λ either. elim either [ inl is ↦ ((takes i).0 is).0 | inr e ↦ subst (IsBitSet a) (sym e) there ]),
    )

-- a bit that is not set is 0
pub unset : (n k : ℕ) → ¬ IsBitSet n k → bit_at n k ≡ 0
unset n k isnt = let other : bit_at n k ≢ 1 = λ e. isnt (bit_is_set n k e) in omega (arith, bit_at-lt n k)

below_power : (n : ℕ) → n < 2 ^ n
below_power zero = omega arith
below_power (suc n) = let below = below_power n in omega (arith, pow-suc 2 n)

ones_within : (width a b c : ℕ) → c < 2 ^ width → ((k : ℕ) → bit_at c k ≤ bit_at a k + bit_at b k) → count_ones c ≤ count_ones a + count_ones b
ones_within zero a b c small each = omega (arith, ones_le_self c)
ones_within (suc width) a b c small each =
    let rest = ones_within width (a / 2) (b / 2) (c / 2) (omega (arith, pow-suc 2 width)) (λ k. (let one = each (suc k) in omega (arith, bit_at-suc a k, bit_at-suc b k, bit_at-suc c k))) in
    let low = each 0 in
    omega (arith, ones_step a, ones_step b, ones_step c, bit_at_lowest a, bit_at_lowest b, bit_at_lowest c, rest, low)

-- bits that are all among those of two masks are at most as many as the two have together
pub few_ones_of : (a b c : ℕ) → ((k : ℕ) → IsBitSet c k → IsBitSet a k ⊎ IsBitSet b k) → count_ones c ≤ count_ones a + count_ones b
few_ones_of a b c among = ones_within c a b c (below_power c) (λ k. elim (bit_or_not c k) [
  | inl is ↦ elim (among k is) [
    | inl in_a ↦ omega (arith, bit_at-lt c k, set_bit a k in_a)
    | inr in_b ↦ omega (arith, bit_at-lt c k, set_bit b k in_b)
  ]
  | inr isnt ↦ omega (arith, unset c k isnt)
])

pub fewer_ones_of : (a c : ℕ) → ((k : ℕ) → IsBitSet c k → IsBitSet a k) → count_ones c ≤ count_ones a
fewer_ones_of a c among = let most = few_ones_of a 0 c (λ k is. inl (among k is)) in omega (arith, most, ones_le_self 0)
