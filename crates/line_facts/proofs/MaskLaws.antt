-- Laws of masks of colours.
use Rattle.std.proofs.Common.{◌≡◌, ℕ, ◌*◌, ◌%◌, ◌^◌, ◌<◌, ◌↔◌, refl, arith, inl, inr, bit_and}
use Rattle.std.specs.Prelude.{IsBitSet}
use Rattle.std.specs.Int.{bit_at, bit_not, trailing_zeros, w16}
use Rattle.std.proofs.lemmas.Bool.{cases_eq}
use Rattle.std.proofs.lemmas.Nat.Bits.{bit_at_and, bit_at-lt, bit_at_not, bit_at_ones, bit_at-trailing_zeros}
use Rattle.std.proofs.lemmas.Grind.{one_shifted}
use Rattle.line_facts.specs.Masks.{IsOnly}
use Rattle.picture.proofs.BitLaws.{set_bit, bit_is_set, bit_below, power_has, same_bits}

pub only_is_power : (mask k : ℕ) → IsOnly mask k → mask ≡ 2 ^ k
only_is_power mask k h = same_bits mask (2 ^ k) (λ j. ((λ s. (power_has k j).1 ((h j).0 s)), (λ s. (h j).1 ((power_has k j).0 s))))

pub lowest_of_power : (k : ℕ) → k < 16 → 0 < 2 ^ k → 2 ^ k < 2 ^ 16 → trailing_zeros w16 (2 ^ k) ≡ k
lowest_of_power k h p q = (power_has k (trailing_zeros w16 (2 ^ k))).0 (bit_is_set _ _ (bit_at-trailing_zeros w16 (2 ^ k) p q).1)

pub shifted : (k : ℕ) → k < 16 → 1 * 2 ^ k % 65536 ≡ 2 ^ k
shifted k h = (one_shifted k 65535 refl h).0

pub lowest_below : (mask : ℕ) → 0 < mask → mask < 2 ^ 16 → trailing_zeros w16 mask < 16
lowest_below mask p q = (bit_at-trailing_zeros w16 mask p q).0

pub without_bit : (mask colours k : ℕ) → mask < 2 ^ 16 → colours < 2 ^ 16 → IsBitSet (bit_and mask (bit_not w16 colours)) k ↔ (IsBitSet mask k × (IsBitSet colours k → ⊥))
without_bit mask colours k m c =
    let a = bit_at_and mask (bit_not w16 colours) k in
    let x = bit_at-lt mask k in
    let y = bit_at-lt colours k in (
      (λ s.
          let e = set_bit _ _ s in
          let l = bit_below mask 16 k m (bit_is_set mask k (let b = bit_at-lt (bit_not w16 colours) k in omega arith)) in
          let n = bit_at_not w16 colours k c l in
          (bit_is_set mask k (omega arith), λ t. let f = set_bit colours k t in absurd (omega arith))),
      (λ p.
          let e = set_bit mask k p.0 in
          let l = bit_below mask 16 k m p.0 in
          let n = bit_at_not w16 colours k c l in
          let z : bit_at colours k ≡ 0 = elim (cases_eq (bit_at colours k) 1) [ inl f ↦ absurd (p.1 (bit_is_set colours k f)) | inr g ↦ omega arith ] in
          bit_is_set _ k (omega arith)),
    )

-- all sixteen colours
pub full_has : (k : ℕ) → k < 16 → IsBitSet 65535 k
full_has k h = bit_is_set 65535 k (bit_at_ones 16 k h)
