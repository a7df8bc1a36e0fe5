-- A name put into a set of names or taken out, and the table of the set.
use Rattle.std.proofs.Common.{◌≡◌, ℕ, ◌*◌, ◌%◌, ◌^◌, ◌<◌, refl, sym, subst, ap, inl, inr, bit_and, bit_or}
use Rattle.std.specs.Int.{w128, bit_not}
use Rattle.picture.specs.declared.picture.TheConstants.{MAX_SIDE}
use Rattle.picture.specs.declared.line_id.Axis.{Axis}
use Rattle.picture.specs.declared.line_id.Axis.TheVariants.{Across, Down}
use Rattle.picture.specs.declared.line_id.LineId.{LineId}
use Rattle.picture.specs.LineSet.{Lines, IsLineSet, mask_along, PutsName, TakesOutName}
use Rattle.picture.proofs.BitLemmas.{cleared, raised, raised_small, cleared_small}
use Rattle.picture.proofs.LineSetLaws.{same_axis, same_name, small_along}

-- ---- one axis has another mask

abbrev pub with_mask : Axis → Lines → ℕ → Lines
with_mask Across lines mask = record { rows = mask; columns = lines.columns }
with_mask Down lines mask = record { rows = lines.rows; columns = mask }

its_mask : (axis : Axis) (lines : Lines) (mask : ℕ) → mask_along axis (with_mask axis lines mask) ≡ mask
its_mask Across lines mask = refl
its_mask Down lines mask = refl

other_mask : (axis other : Axis) (lines : Lines) (mask : ℕ) → ¬ (other ≡ axis) → mask_along other (with_mask axis lines mask) ≡ mask_along other lines
other_mask Across Across lines mask differs = absurd (differs refl)
other_mask Across Down lines mask differs = refl
other_mask Down Across lines mask differs = refl
other_mask Down Down lines mask differs = absurd (differs refl)

table_with : (axis : Axis) (lines : Lines) (mask : ℕ) → IsLineSet lines → mask < 2 ^ MAX_SIDE → IsLineSet (with_mask axis lines mask)
table_with Across lines mask is small = record { rows_within = small; columns_within = is.columns_within }
table_with Down lines mask is small = record { rows_within = is.rows_within; columns_within = small }

-- ---- one name

abbrev pub bit_in : ℕ → ℕ → ℕ
bit_in mask k = bit_or mask (1 * 2 ^ k % 2 ^ 128)

abbrev pub bit_out : ℕ → ℕ → ℕ
bit_out mask k = bit_and mask (bit_not w128 (1 * 2 ^ k % 2 ^ 128))

module _ (axis : Axis) (lines : Lines) (at : ℕ) (is : IsLineSet lines) (inside : at < MAX_SIDE) where
  abbrev mask : ℕ
  mask = mask_along axis lines

  name_in : PutsName lines (with_mask axis lines (bit_in mask at)) (record { axis = axis; at = at })
  name_in other = elim (same_axis other.axis axis) [
    | inl e ↦
        let by = raised mask at other.at inside in
        rw (e, its_mask axis lines (bit_in mask at)) (
          (λ has. elim (by.0 has) [ inl had ↦ inl had | inr same ↦ inr (ap (λ n. record { axis = axis; at = n }) same) ]),
          (λ either. elim either [ inl had ↦ by.1 (inl had) | inr same ↦ by.1 (inr (ap (λ l. l.at) same)) ]),
        )
    | inr differs ↦
        rw (other_mask axis other.axis lines (bit_in mask at) differs)
        ((λ has. inl has), (λ either. elim either [ inl had ↦ had | inr same ↦ absurd (differs (ap (λ l. l.axis) same)) ]))
  ]

  name_out : TakesOutName lines (with_mask axis lines (bit_out mask at)) (record { axis = axis; at = at })
  name_out other = elim (same_axis other.axis axis) [
    | inl e ↦
        let by = cleared mask at other.at (small_along lines is axis) inside in
        rw (e, its_mask axis lines (bit_out mask at))
        ((λ has. let both = by.0 has in (both.0, λ same. both.1 (ap (λ l. l.at) same))), (λ both. by.1 (both.0, λ same. both.1 (ap (λ n. record { axis = axis; at = n }) same))))
    | inr differs ↦
        rw (other_mask axis other.axis lines (bit_out mask at) differs) ((λ has. (has, λ same. differs (ap (λ l. l.axis) same))), (λ both. both.0))
  ]

module _ (axis : Axis) (lines : Lines) (line : LineId) (is : IsLineSet lines) (inside : line.at < MAX_SIDE) (along : line.axis ≡ axis) where
  named : record { axis = axis; at = line.at } ≡ line
  named = same_name (record { axis = axis; at = line.at }) line (sym along) refl

  pub puts : PutsName lines (with_mask axis lines (bit_in (mask_along axis lines) line.at)) line
  puts = subst (PutsName lines (with_mask axis lines (bit_in (mask_along axis lines) line.at))) named (name_in axis lines line.at is inside)

  pub puts_table : IsLineSet (with_mask axis lines (bit_in (mask_along axis lines) line.at))
  puts_table = table_with axis lines _ is (raised_small (mask_along axis lines) line.at (small_along lines is axis) inside)

  pub takes_out : TakesOutName lines (with_mask axis lines (bit_out (mask_along axis lines) line.at)) line
  takes_out = subst (TakesOutName lines (with_mask axis lines (bit_out (mask_along axis lines) line.at))) named (name_out axis lines line.at is inside)

  pub takes_table : IsLineSet (with_mask axis lines (bit_out (mask_along axis lines) line.at))
  takes_table = table_with axis lines _ is (cleared_small (mask_along axis lines) line.at (small_along lines is axis))
