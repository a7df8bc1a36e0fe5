-- The lowest bit from a place on that is set in a mask.
use Rattle.std.proofs.Common.{◌≡◌, ℕ, ◌+◌, ◌-◌, ◌/◌, ◌%◌, ◌^◌, ◌<◌, ◌≤◌, sym, ap, ◌∙◌, arith, IsBitSet}
use Rattle.std.specs.Int.{bit_at, trailing_zeros, w128}
use Rattle.std.proofs.lemmas.Nat.{shr-shr, shr_le}
use Rattle.std.proofs.lemmas.Nat.Bits.{bit_at-trailing_zeros, bit_at-zero}
use Rattle.picture.specs.declared.picture.TheConstants.{MAX_SIDE}
use Rattle.picture.specs.LineSet.{IsClearFrom, IsFirstBit}
use Rattle.picture.proofs.BitLaws.{set_bit, bit_is_set, bit_below}

-- a bit of a mask that is shifted down
onward_bit : (mask from i : ℕ) → bit_at (mask / 2 ^ from) i ≡ bit_at mask (from + i)
onward_bit mask from i = ap (λ n. n % 2) (shr-shr mask from i)

bit_of_onward : (mask from at : ℕ) → from ≤ at → IsBitSet mask at → bit_at (mask / 2 ^ from) (at - from) ≡ 1
bit_of_onward mask from at on is = onward_bit mask from (at - from) ∙ (ap (bit_at mask) (let e : from + (at - from) ≡ at = omega arith in e) ∙ set_bit mask at is)

pub clear_from : (mask from : ℕ) → mask / 2 ^ from ≡ 0 → IsClearFrom mask from
clear_from mask from none at on is =
    let one = bit_of_onward mask from at on is in
    let zero = ap (λ n. bit_at n (at - from)) none in
    let clear = bit_at-zero (at - from) in
    absurd (omega arith)

module _ (mask from : ℕ) (small : mask < 2 ^ MAX_SIDE) (some : 0 < mask / 2 ^ from) where
  lowest : (trailing_zeros w128 (mask / 2 ^ from) < 128) × (bit_at (mask / 2 ^ from) (trailing_zeros w128 (mask / 2 ^ from)) ≡ 1) × ((i : ℕ) → i < trailing_zeros w128 (mask / 2 ^ from)
      → bit_at (mask / 2 ^ from) i ≡ 0)
  lowest = bit_at-trailing_zeros w128 (mask / 2 ^ from) some (omega (arith, small, shr_le mask from))

  is_lowest : IsBitSet mask (from + trailing_zeros w128 (mask / 2 ^ from))
  is_lowest = bit_is_set mask (from + trailing_zeros w128 (mask / 2 ^ from)) (sym (onward_bit mask from (trailing_zeros w128 (mask / 2 ^ from))) ∙ lowest.1)

  pub first_is : IsFirstBit mask from (from + trailing_zeros w128 (mask / 2 ^ from))
  first_is = record {
    onward = omega arith;
    within = bit_below mask MAX_SIDE (from + trailing_zeros w128 (mask / 2 ^ from)) small is_lowest;
    is_set = is_lowest;
    first = λ before on l is.
        let one = bit_of_onward mask from before on is in
        let zero = lowest.2 (before - from) (omega arith) in
        absurd (omega arith);
  }

pub ruleset first = (clear_from, first_is)
