-- Chains of open cells, and the masks of open cells.
use Rattle.std.proofs.Common.{◌≡◌, ◌≢◌, ℕ, ◌*◌, ◌%◌, ◌^◌, ◌<◌, ◌↔◌, ◌⊎◌, List, [], length, get_or, refl, sym, ap, subst, ◌∙◌, arith, inl, inr, bit_and, Bool, true, false, not, nat_eq, IsTrue, eq-eqb}
use Rattle.std.proofs.Common.{ne_eqb}
use Rattle.std.specs.Prelude.{IsBitSet}
use Rattle.std.specs.Int.{bit_at, bit_not, trailing_zeros, w16}
use Rattle.std.proofs.lemmas.Bool.{cases_eq, cases_lt}
use Rattle.std.proofs.lemmas.List.{get_or_past}
use Rattle.std.proofs.lemmas.Nat.{and_le_l}
use Rattle.std.proofs.lemmas.Nat.Bits.{bit_at-zero, bit_at-trailing_zeros, bit_at_clear_same, bit_at_clear_other}
use Rattle.line_facts.specs.Masks.{Masks}
use Rattle.picture.specs.Rows.{width_of, row_at, cell_at}
use Rattle.line_facts.specs.FactSets.{IsFacts}
use Rattle.second_search.specs.Parts.{IsChained, IsOpenCell, begins, goes_on}
use Rattle.picture.proofs.BitLaws.{bit_below, bit_is_set, no_bit, set_bit}

-- ---- masks with more than one colour

abbrev pub HasTwoColours : ℕ → Type 0
HasTwoColours mask = (j : ℕ) × (k : ℕ) × IsBitSet mask j × IsBitSet mask k × (j ≡ k → ⊥)

pub none_has_two : (mask : ℕ) → mask ≡ 0 → HasTwoColours mask → ⊥
none_has_two mask e h = no_bit h.0 (let P : ℕ → Type 0 = λ m. IsBitSet m h.0 in subst P e h.2)

abbrev pub but_lowest : ℕ → ℕ
but_lowest mask = bit_and mask (bit_not w16 (1 * 2 ^ trailing_zeros w16 mask % 65536))

lower_mask : (mask : ℕ) → mask < 2 ^ 16 → but_lowest mask < 2 ^ 16
lower_mask mask small = let l = and_le_l mask (bit_not w16 (1 * 2 ^ trailing_zeros w16 mask % 65536)) in omega arith

-- a mask with a colour besides its lowest has two
pub two_colours : (mask : ℕ) → 0 < mask → mask < 2 ^ 16 → but_lowest mask < 2 ^ 16 → but_lowest mask ≢ 0 → HasTwoColours mask
two_colours mask some small less d =
    let t = bit_at-trailing_zeros w16 mask some small in
    let u = bit_at-trailing_zeros w16 (but_lowest mask) (omega arith) less in
    let low = trailing_zeros w16 mask in
    let next = trailing_zeros w16 (but_lowest mask) in
    let gone = bit_at_clear_same w16 mask low t.0 in
    let apart : next ≢ low = λ e. absurd (let x = ap (bit_at (but_lowest mask)) e in let y = u.1 in omega arith) in
    (low, next, bit_is_set mask low t.1, bit_is_set mask next (sym (bit_at_clear_other w16 mask low t.0 next u.0 apart) ∙ u.1), (λ e. apart (sym e)))

only_lowest : (mask k : ℕ) → 0 < mask → mask < 2 ^ 16 → but_lowest mask ≡ 0 → IsBitSet mask k → k ≡ trailing_zeros w16 mask
only_lowest mask k some small e is =
    let t = bit_at-trailing_zeros w16 mask some small in
    let low = trailing_zeros w16 mask in
    elim (cases_eq k low) [
      | inl same ↦ same
      | inr d ↦ absurd (
          let same = bit_at_clear_other w16 mask low t.0 k (bit_below mask 16 k small is) d in
          let none = ap (λ m. bit_at m k) e in
          let zero = bit_at-zero k in
          let one = set_bit mask k is in
          omega arith)
    ]

pub one_colour : (mask : ℕ) → 0 < mask → mask < 2 ^ 16 → but_lowest mask ≡ 0 → HasTwoColours mask → ⊥
one_colour mask some small e h = h.4 (only_lowest mask h.0 some small e h.2 ∙ sym (only_lowest mask h.1 some small e h.3))

-- the test for two colours
pub tests_two : (mask : ℕ) → 0 < mask → mask < 2 ^ 16 → IsTrue (not (nat_eq (but_lowest mask) 0)) ↔ HasTwoColours mask
tests_two mask some small = elim (cases_eq (but_lowest mask) 0) [
  | inl e ↦
      subst (λ (b : Bool). IsTrue (not b) ↔ HasTwoColours mask) (sym (eq-eqb (but_lowest mask) 0 e)) ((λ (t : false ≡ true). absurd cc), (λ h. absurd (one_colour mask some small e h)))
  | inr d ↦
      subst (λ (b : Bool). IsTrue (not b) ↔ HasTwoColours mask) (sym (ne_eqb (but_lowest mask) 0 d)) ((λ t. two_colours mask some small (lower_mask mask small) d), (λ h. refl))
]

-- ---- chains

-- two cells share a row or a column
abbrev pub ShareLine : ℕ → ℕ → ℕ → ℕ → Type 0
ShareLine row col r c = (row ≡ r) ⊎ (col ≡ c)

-- an open cell lies in the facts
pub open_inside : (facts : Masks) (row col : ℕ) → IsFacts facts → IsOpenCell facts row col → (row < length facts) × (col < width_of facts)
open_inside facts row col is h = elim (cases_lt row (length facts)) [
  | inl l ↦ (
    l,
    elim (cases_lt col (width_of facts)) [
      | inl m ↦ m
      | inr p ↦ absurd (none_has_two (cell_at facts row col) (get_or_past (row_at facts row) col 0 (let r = is.rectangular row l in omega arith)) h)
    ],
  )
  | inr p ↦ absurd (none_has_two (cell_at facts row col) (ap (λ (cells : List ℕ). get_or cells col 0) (get_or_past facts row [] p)) h)
]

pub share_back : (row col r c : ℕ) → ShareLine row col r c → ShareLine r c row col
share_back row col r c (inl e) = inl (sym e)
share_back row col r c (inr e) = inr (sym e)

-- a chain ends in an open cell
pub chain_end : (facts : Masks) (row col r c : ℕ) → IsChained facts row col r c → IsOpenCell facts r c
chain_end facts row col _ _ (begins o) = o
chain_end facts row col _ _ (goes_on r c s d chain share o) = o

pub chain_on : (facts : Masks) (row col r c s d : ℕ) → IsChained facts row col r c → IsChained facts r c s d → IsChained facts row col s d
chain_on facts row col r c _ _ h (begins o) = h
chain_on facts row col r c _ _ h (goes_on s d t e chain share o) = goes_on s d t e (chain_on facts row col r c s d h chain) share o

pub chain_back : (facts : Masks) (row col r c : ℕ) → IsChained facts row col r c → IsChained facts r c row col
chain_back facts row col _ _ (begins o) = begins o
chain_back facts row col _ _ (goes_on r c s d chain share o) =
    chain_on facts s d r c row col (goes_on s d r c (begins o) (share_back r c s d share) (chain_end facts row col r c chain)) (chain_back facts row col r c chain)

pub chain_in_row : (facts : Masks) (row col c : ℕ) → IsOpenCell facts row col → IsOpenCell facts row c → IsChained facts row col row c
chain_in_row facts row col c o p = goes_on row col row c (begins o) (inl refl) p
