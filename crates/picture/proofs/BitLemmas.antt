-- The bits of a mask, and one bit of a mask of 120 bits set or cleared.
use Rattle.std.proofs.Common.{◌≡◌, ◌≢◌, ℕ, ◌*◌, ◌%◌, ◌^◌, ◌<◌, sym, ◌∙◌, subst, inl, inr, arith, IsBitSet, ◌⊎◌, ◌↔◌, bit_and, bit_or}
use Rattle.std.specs.Int.{w128, bit_not, bit_at}
use Rattle.std.proofs.lemmas.Bool.{cases_lt, cases_eq}
use Rattle.std.proofs.lemmas.Nat.{pow_below, and_le_l, or_lt}
use Rattle.std.proofs.lemmas.Nat.Bits.{bit_at_set_same, bit_at_set_other, bit_at_clear_same, bit_at_clear_other, bit_at_above}
use Rattle.picture.specs.declared.picture.TheConstants.{MAX_SIDE}
use Rattle.picture.proofs.BitLaws.{set_bit, bit_is_set}

-- a bit that is the same in two numbers
same_bit : (m n i : ℕ) → bit_at m i ≡ bit_at n i → IsBitSet m i ↔ IsBitSet n i
same_bit m n i e = ((λ is. bit_is_set n i (sym e ∙ set_bit m i is)), (λ is. bit_is_set m i (e ∙ set_bit n i is)))

cleared_bit : (n k i : ℕ) → n < 2 ^ MAX_SIDE → k < MAX_SIDE → i ≢ k → bit_at (bit_and n (bit_not w128 (1 * 2 ^ k % 2 ^ 128))) i ≡ bit_at n i
cleared_bit n k i small inside other =
    elim (cases_lt i 128) [
      | inl lt ↦ bit_at_clear_other w128 n k (omega (arith, inside)) i lt other
      | inr past ↦
          let mask = bit_and n (bit_not w128 (1 * 2 ^ k % 2 ^ 128)) in
          bit_at_above mask MAX_SIDE i (omega (arith, small, and_le_l n (bit_not w128 (1 * 2 ^ k % 2 ^ 128)))) (omega (arith, past)) ∙ sym (bit_at_above n MAX_SIDE i small (omega (arith, past)))
    ]

-- the bits of a mask with one bit cleared
pub cleared : (n k i : ℕ) → n < 2 ^ MAX_SIDE → k < MAX_SIDE → IsBitSet (bit_and n (bit_not w128 (1 * 2 ^ k % 2 ^ 128))) i ↔ (IsBitSet n i × (i ≡ k → ⊥))
cleared n k i small inside =
    let mask = bit_and n (bit_not w128 (1 * 2 ^ k % 2 ^ 128)) in
    elim (cases_eq i k) [
      | inl e ↦
          let none : bit_at mask i ≡ 0 = subst (λ j. bit_at mask j ≡ 0) (sym e) (bit_at_clear_same w128 n k (omega (arith, inside))) in
          ((λ is. let one = set_bit mask i is in absurd (omega (arith, one, none))), (λ both. absurd (both.1 e)))
      | inr other ↦
          let same = same_bit mask n i (cleared_bit n k i small inside other) in
          ((λ is. (same.0 is, other)), (λ both. same.1 both.0))
    ]

-- the bits of a mask with one bit set
pub raised : (n k i : ℕ) → k < MAX_SIDE → IsBitSet (bit_or n (1 * 2 ^ k % 2 ^ 128)) i ↔ (IsBitSet n i ⊎ (i ≡ k))
raised n k i inside =
    let mask = bit_or n (1 * 2 ^ k % 2 ^ 128) in
    elim (cases_eq i k) [
      | inl e ↦
          let one : bit_at mask i ≡ 1 = subst (λ j. bit_at mask j ≡ 1) (sym e) (bit_at_set_same w128 n k (omega (arith, inside))) in
          ((λ is. inr e), (λ _. bit_is_set mask i one))
      | inr other ↦
          let same = same_bit mask n i (bit_at_set_other w128 n k (omega (arith, inside)) i other) in
          ((λ is. inl (same.0 is)), (λ either. elim either [ inl is ↦ same.1 is | inr e ↦ absurd (other e) ]))
    ]

-- the mask keeps its width
pub raised_small : (n k : ℕ) → n < 2 ^ MAX_SIDE → k < MAX_SIDE → bit_or n (1 * 2 ^ k % 2 ^ 128) < 2 ^ MAX_SIDE
raised_small n k small inside = or_lt MAX_SIDE n (1 * 2 ^ k % 2 ^ 128) small bit_small
  where
    grows : 2 ^ k < 2 ^ MAX_SIDE
    grows = pow_below k MAX_SIDE inside

    bit_small : 1 * 2 ^ k % 2 ^ 128 < 2 ^ MAX_SIDE
    bit_small = omega (arith, grows)

pub cleared_small : (n k : ℕ) → n < 2 ^ MAX_SIDE → bit_and n (bit_not w128 (1 * 2 ^ k % 2 ^ 128)) < 2 ^ MAX_SIDE
cleared_small n k small = omega (arith, and_le_l n (bit_not w128 (1 * 2 ^ k % 2 ^ 128)), small)
