-- Colours of a mask that are excluded in a cell.
use Rattle.std.proofs.Common.{◌≡◌, ℕ, ◌^◌, ◌<◌, length, get_or, bit_and, subst, ◌∙◌, arith, inl, inr, ◌↔◌, IsBitSet}
use Rattle.std.proofs.lemmas.Bool.{cases_eq}
use Rattle.std.proofs.lemmas.Nat.{and_le_r}
use Rattle.line_facts.specs.Masks.{Masks}
use Rattle.picture.specs.declared.line_id.LineId.{LineId}
use Rattle.picture.proofs.BitLaws.{no_bit}
use Rattle.picture.specs.Rows.{line_of}
use Rattle.line_facts.proofs.GridLaws.{cell_on}
use Rattle.justify.proofs.LineMaskLemmas.{both_bits, some_bit}
use Rattle.retract.specs.StandingSteps.{ExcludesAll}

-- a mask has no bit in common with `left` exactly if none of its colours is left
nothing_common : (left colours : ℕ) → colours < 2 ^ 16 → (bit_and left colours ≡ 0) ↔ ((k : ℕ) → IsBitSet colours k → IsBitSet left k → ⊥)
nothing_common left colours small = (
  (λ none k of_colours of_left. no_bit k (subst (λ n. IsBitSet n k) none ((both_bits left colours k).1 (of_left, of_colours)))),
  (λ none. elim (cases_eq (bit_and left colours) 0) [
    | inl e ↦ e
    | inr some ↦
        let below = and_le_r left colours in
        let bit = some_bit (bit_and left colours) (omega arith) (omega arith) in
        let both = (both_bits left colours bit.0).0 bit.1 in
        absurd (none bit.0 both.1 both.0)
  ]),
)

pub excludes_colours : (facts : Masks) (line : LineId) (place left colours : ℕ) → colours < 2 ^ 16 → place < length (line_of facts line) → left ≡ get_or (line_of facts line) place 0
    → (bit_and left colours ≡ 0) ↔ ExcludesAll facts line place colours
excludes_colours facts line place left colours small within is =
    subst (λ (mask : ℕ). (bit_and left colours ≡ 0) ↔ ((k : ℕ) → IsBitSet colours k → IsBitSet mask k → ⊥)) (is ∙ cell_on facts line place) (nothing_common left colours small)

pub ruleset excluding = (excludes_colours)
