-- The names of two sets together, and how many they are.
use Rattle.std.proofs.Common.{ℕ, inl, inr, arith, IsBitSet, ◌⊎◌, ◌↔◌, bit_or}
use Rattle.std.proofs.lemmas.Nat.{or_lt}
use Rattle.std.proofs.lemmas.Nat.Bits.{bit_at_or, bit_at-lt}
use Rattle.picture.specs.declared.picture.TheConstants.{MAX_SIDE}
use Rattle.picture.specs.declared.line_id.Axis.{Axis}
use Rattle.picture.specs.declared.line_id.Axis.TheVariants.{Across, Down}
use Rattle.picture.specs.LineSet.{Lines, IsLineSet, PutsNames, mask_along}
use Rattle.picture.proofs.BitLaws.{set_bit, bit_is_set, bit_or_not, unset}

-- ---- both masks together

either_bit : (a b k : ℕ) → IsBitSet (bit_or a b) k ↔ (IsBitSet a k ⊎ IsBitSet b k)
either_bit a b k =
    let both = bit_at_or a b k in
    let x = bit_at-lt a k in
    let y = bit_at-lt b k in (
      (λ is. elim (bit_or_not a k) [
        | inl in_a ↦ inl in_a
        | inr isnt ↦
            let one = set_bit (bit_or a b) k is in
            let none = unset a k isnt in
            inr (bit_is_set b k (omega arith))
      ]),
      (λ either. elim either [
        | inl in_a ↦ let one = set_bit a k in_a in bit_is_set (bit_or a b) k (omega arith)
        | inr in_b ↦ let one = set_bit b k in_b in bit_is_set (bit_or a b) k (omega arith)
      ]),
    )

abbrev union : Lines → Lines → Lines
union old names = record { rows = bit_or old.rows names.rows; columns = bit_or old.columns names.columns }

pub union_names : (old names : Lines) → PutsNames old (union old names) names
union_names old names line = along line.axis
  where
    along : (axis : Axis) → IsBitSet (mask_along axis (union old names)) line.at ↔ (IsBitSet (mask_along axis old) line.at ⊎ IsBitSet (mask_along axis names) line.at)
    along Across = either_bit old.rows names.rows line.at
    along Down = either_bit old.columns names.columns line.at

pub union_is_set : (old names : Lines) → IsLineSet old → IsLineSet names → IsLineSet (union old names)
union_is_set old names is more = record {
  rows_within = or_lt MAX_SIDE old.rows names.rows is.rows_within more.rows_within;
  columns_within = or_lt MAX_SIDE old.columns names.columns is.columns_within more.columns_within;
}
