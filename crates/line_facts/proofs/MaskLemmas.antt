-- Bits of masks.
use Rattle.std.proofs.Common.{◌≡◌, ◌≢◌, ℕ, ◌*◌, ◌%◌, ◌^◌, ◌<◌, refl, sym, ap, subst, ◌∙◌}
use Rattle.std.specs.Prelude.{IsBitSet}
use Rattle.std.specs.Int.{trailing_zeros, w16}
use Rattle.line_facts.specs.Masks.{IsOnly}
use Rattle.picture.proofs.BitLaws.{bit_below, no_bit, power_has}
use Rattle.line_facts.proofs.MaskLaws.{only_is_power, lowest_of_power, lowest_below, shifted}

pub only_one : (mask lowest : ℕ) → lowest < 16 → mask ≡ 1 * 2 ^ lowest % 65536 → IsOnly mask lowest
only_one mask lowest h e = let P : ℕ → Type 0 = λ m. IsOnly m lowest in subst P (sym (e ∙ shifted lowest h)) (power_has lowest)

pub only_none : (mask : ℕ) → mask ≡ 0 → (k : ℕ) → IsOnly mask k → ⊥
only_none mask e k h = no_bit k (let P : ℕ → Type 0 = λ m. IsBitSet m k in subst P e ((h k).1 refl))

pub only_lowest : (mask : ℕ) → 0 < mask → mask < 2 ^ 16 → mask ≢ 1 * 2 ^ trailing_zeros w16 mask % 65536 → (k : ℕ) → IsOnly mask k → ⊥
only_lowest mask p q n k h =
    let e = only_is_power mask k h in
    let l = bit_below mask 16 k q ((h k).1 refl) in
    let t = lowest_of_power k l (let P : ℕ → Type 0 = λ m. 0 < m in subst P e p) (let P : ℕ → Type 0 = λ m. m < 2 ^ 16 in subst P e q) in
    n (e ∙ (sym (shifted k l) ∙ ap (λ j. 1 * 2 ^ j % 65536) (sym t ∙ ap (trailing_zeros w16) (sym e))))

pub ruleset only = (only_none, only_lowest, only_one, lowest_below)
