-- The names of a set along one axis and then the other, put on an agenda in turn.
use Rattle.std.proofs.Common.{◌≡◌, ℕ, ◌<◌, ◌≤◌, ◌↔◌, refl, subst, ◌⊎◌, inl, inr}
use Rattle.std.specs.Prelude.{IsBitSet}
use Rattle.picture.specs.declared.line_id.Axis.{Axis}
use Rattle.picture.specs.declared.line_id.Axis.TheVariants.{Across, Down}
use Rattle.picture.specs.declared.line_id.LineId.{LineId}
use Rattle.picture.specs.LineSet.{Lines, HasName, PutsNames, mask_along}
use Rattle.fixpoint.specs.Agenda.{PutsAlong}

-- the names before a place are put on
pub record PutBefore (axis : Axis) (lines old now : Lines) (from : ℕ) : Type 0 where
  pub within : from ≤ 120
  pub names : (line : LineId) → HasName now line ↔ (HasName old line ⊎ ((line.axis ≡ axis) × (line.at < from) × HasName lines line))

bit_along : (axis : Axis) (lines : Lines) (line : LineId) → line.axis ≡ axis → HasName lines line → IsBitSet (mask_along axis lines) line.at
bit_along axis lines line e has = let P : Axis → Type 0 = λ a. IsBitSet (mask_along a lines) line.at in subst P e has

pub both_along : (old half new lines : Lines) → PutsAlong Across lines old half → PutsAlong Down lines half new → PutsNames old new lines
both_along old half new lines h f line = (
  (λ s. elim ((f line).0 s) [
    | inl a ↦ elim ((h line).0 a) [ inl o ↦ inl o | inr b ↦ inr b.1 ]
    | inr b ↦ inr b.1
  ]),
  (λ s. elim s [
    | inl o ↦ (f line).1 (inl ((h line).1 (inl o)))
    | inr x ↦ elim (one_axis line.axis) [
      | inl a ↦ (f line).1 (inl ((h line).1 (inr (a, x))))
      | inr a ↦ (f line).1 (inr (a, x))
    ]
  ]),
)
  where
    one_axis : (axis : Axis) → (axis ≡ Across) ⊎ (axis ≡ Down)
    one_axis Across = inl refl
    one_axis Down = inr refl
