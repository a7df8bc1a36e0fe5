-- A cell put into a set of cells or taken out, and how many cells there are.
use Rattle.std.proofs.Common.{◌≡◌, ℕ, ◌+◌, ◌*◌, ◌%◌, ◌^◌, ◌<◌, ◌≤◌, List, length, get_or, set, replicate, refl, sym, ap, ◌∙◌, subst, inl, inr, arith, IsBitSet, ◌↔◌, count_ones, bit_and, bit_or}
use Rattle.std.specs.Int.{w128, bit_not}
use Rattle.std.proofs.lemmas.Bool.{cases_lt, cases_eq}
use Rattle.std.proofs.lemmas.List.{get_or-set_same, get_or-set_other, get_or_past, get_or-replicate, length-replicate, length-set, set-get_or}
use Rattle.std.proofs.lemmas.List.Sums.{sum_by-set}
use Rattle.std.proofs.lemmas.Nat.{ones-le}
use Rattle.picture.specs.declared.picture.TheConstants.{MAX_SIDE}
use Rattle.picture.specs.CellSet.{IsCellSet, HasCell, PutsCell, TakesOutCell, cell_count}
use Rattle.picture.proofs.BitLaws.{same_bits, bits_more, bits_fewer}
use Rattle.picture.proofs.BitLemmas.{cleared, raised, raised_small}

module _ (masks : List ℕ) (row col : ℕ) (is : IsCellSet masks) (lt : row < length masks) (inside : col < MAX_SIDE) where
  -- one cell taken out of the set
  pub takes_out : TakesOutCell masks (set masks row (bit_and (get_or masks row 0) (bit_not w128 (1 * 2 ^ col % 2 ^ 128)))) row col
  takes_out r c =
      let mask = bit_and (get_or masks row 0) (bit_not w128 (1 * 2 ^ col % 2 ^ 128)) in
      elim (cases_eq r row) [
        | inl e ↦
            let by = cleared (get_or masks row 0) col c (is.within row) inside in
            rw (e, get_or-set_same masks row mask 0 lt) ((λ h. let b = by.0 h in (b.0, λ at. b.1 at.1)), (λ both. by.1 (both.0, λ same. both.1 (refl, same))))
        | inr other ↦
            rw (get_or-set_other masks row r mask 0 other) ((λ h. (h, λ at. other at.0)), (λ both. both.0))
      ]

  -- one cell put into the set
  pub puts : PutsCell masks (set masks row (bit_or (get_or masks row 0) (1 * 2 ^ col % 2 ^ 128))) row col
  puts r c = grind (arith, bit_or, get_or, get_or-set_other, get_or-set_same, raised)

  -- with another mask in a row it is still a table
  stays : (mask : ℕ) → mask < 2 ^ MAX_SIDE → IsCellSet (set masks row mask)
  stays mask small = grind (arith, get_or-set_other, get_or-set_same, length-set)

  pub stays_put : IsCellSet (set masks row (bit_or (get_or masks row 0) (1 * 2 ^ col % 2 ^ 128)))
  stays_put = stays _ (raised_small (get_or masks row 0) col (is.within row) inside)

  -- a set that has the cell stays as it is, and any other gets one cell more
  pub known_put : HasCell masks row col → set masks row (bit_or (get_or masks row 0) (1 * 2 ^ col % 2 ^ 128)) ≡ masks
  known_put has = ap (set masks row) (same_bits _ _ again) ∙ set-get_or masks row 0
    where
      again : (k : ℕ) → IsBitSet (bit_or (get_or masks row 0) (1 * 2 ^ col % 2 ^ 128)) k ↔ IsBitSet (get_or masks row 0) k
      again k =
          let by = raised (get_or masks row 0) col k inside in
          ((λ is. elim (by.0 is) [ inl had ↦ had | inr e ↦ subst (IsBitSet (get_or masks row 0)) (sym e) has ]), (λ had. by.1 (inl had)))

  pub more_put : ¬ HasCell masks row col → cell_count (set masks row (bit_or (get_or masks row 0) (1 * 2 ^ col % 2 ^ 128))) ≡ cell_count masks + 1
  more_put absent =
      let mask = bit_or (get_or masks row 0) (1 * 2 ^ col % 2 ^ 128) in
      let more = bits_more col (get_or masks row 0) mask absent (λ k. raised (get_or masks row 0) col k inside) in
      let counted = sum_by-set count_ones masks row mask 0 lt in
      omega (arith, more, counted)

  -- a set that does not have the cell stays as it is, and any other gets one cell less
  pub absent_out : ¬ HasCell masks row col → set masks row (bit_and (get_or masks row 0) (bit_not w128 (1 * 2 ^ col % 2 ^ 128))) ≡ masks
  absent_out absent = ap (set masks row) (same_bits _ _ still) ∙ set-get_or masks row 0
    where
      still : (k : ℕ) → IsBitSet (bit_and (get_or masks row 0) (bit_not w128 (1 * 2 ^ col % 2 ^ 128))) k ↔ IsBitSet (get_or masks row 0) k
      still k =
          let by = cleared (get_or masks row 0) col k (is.within row) inside in
          ((λ is. (by.0 is).0), (λ had. by.1 (had, λ e. absent (subst (IsBitSet (get_or masks row 0)) e had))))

  pub fewer_out : HasCell masks row col → cell_count (set masks row (bit_and (get_or masks row 0) (bit_not w128 (1 * 2 ^ col % 2 ^ 128)))) + 1 ≡ cell_count masks
  fewer_out has =
      let mask = bit_and (get_or masks row 0) (bit_not w128 (1 * 2 ^ col % 2 ^ 128)) in
      let fewer = bits_fewer col (get_or masks row 0) mask has (λ k. cleared (get_or masks row 0) col k (is.within row) inside) in
      let counted = sum_by-set count_ones masks row mask 0 lt in
      omega (arith, fewer, counted)

-- the empty table
pub empty_is : IsCellSet (replicate MAX_SIDE 0)
empty_is = record {
  rows = length-replicate {A = ℕ} MAX_SIDE 0;
  within = λ r. elim (cases_lt r MAX_SIDE) [
    | inl lt ↦ rw (get_or-replicate {A = ℕ} MAX_SIDE r 0 0 lt) (omega arith)
    | inr past ↦ rw (get_or_past {X = ℕ} (replicate MAX_SIDE 0) r 0 past) (omega arith)
  ];
}

-- no row of the table has more than 120 cells
pub few_ones : (masks : List ℕ) (row : ℕ) → IsCellSet masks → count_ones (get_or masks row 0) ≤ MAX_SIDE
few_ones masks row is = ones-le MAX_SIDE (get_or masks row 0) (is.within row)
