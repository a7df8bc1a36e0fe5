-- How many notes a bounded trail can have: two for each colour that is left, and one for each part that leaves nothing.
use Rattle.std.proofs.Common.{◌≡◌, ℕ, zero, suc, ◌+◌, ◌*◌, ◌/◌, ◌^◌, ◌<◌, ◌≤◌, length, count_ones, bit_and, IsBitSet, refl, sym, ap, subst, ◌∙◌, arith, inl, inr, pow-suc}
use Rattle.std.specs.Int.{bit_at, bit_not, w16}
use Rattle.std.specs.Int.Count.{ones_step}
use Rattle.std.proofs.lemmas.Bool.{cases_eq}
use Rattle.std.proofs.lemmas.Nat.{ones-le}
use Rattle.std.proofs.lemmas.Nat.Bits.{bit_at-lt, bit_at-suc, bit_at_lowest}
use Rattle.picture.proofs.BitLaws.{bit_is_set, bit_or_not, fewer_le, fewer_ones_of, no_bit, same_bits, set_bit, unset}
use Rattle.picture.specs.Rows.{cell_at, width_of, with_cell}
use Rattle.line_facts.proofs.GridLaws.{at_with_cell, off_with_cell, shape_with_cell}
use Rattle.line_facts.proofs.MaskLaws.{without_bit}
use Rattle.line_facts.specs.FactSets.{IsFacts}
use Rattle.line_facts.specs.Masks.{Masks}
use Rattle.cert_check.specs.Notes.{colours_left}
use Rattle.cert_check.specs.Strays.{tally}
use Rattle.cert_check.proofs.MaskLemmas.{bits_of_and}
use Rattle.cert_check.proofs.StrayLemmas.{tally_below, tally_change, tally_part, tally_same}

-- ---- fewer colours in a mask

below_half : (a b : ℕ) → ((k : ℕ) → IsBitSet b k → IsBitSet a k) → (k : ℕ) → IsBitSet (b / 2) k → IsBitSet (a / 2) k
below_half a b h k s = bit_is_set (a / 2) k (sym (bit_at-suc a k) ∙ set_bit a (suc k) (h (suc k) (bit_is_set b (suc k) (bit_at-suc b k ∙ set_bit (b / 2) k s))))

low_bits : (a b : ℕ) → ((k : ℕ) → IsBitSet b k → IsBitSet a k) → bit_at b 0 ≤ bit_at a 0
low_bits a b h = elim (bit_or_not b 0) [
  | inl s ↦ omega (arith, bit_at-lt b 0, set_bit a 0 (h 0 s))
  | inr n ↦ omega (arith, unset b 0 n)
]

-- a proper subset of a mask has fewer colours
pub fewer_colours : (width a b : ℕ) → a < 2 ^ width → ((k : ℕ) → IsBitSet b k → IsBitSet a k) → (a ≡ b → ⊥) → count_ones b + 1 ≤ count_ones a
fewer_colours zero a b l h d = let le = fewer_le b a h in absurd (d (omega arith))
fewer_colours (suc width) a b l h d =
    let low = low_bits a b h in
    elim (cases_eq (a / 2) (b / 2)) [
      | inl e ↦ omega (arith, ap count_ones e, ones_step a, ones_step b, bit_at_lowest a, bit_at_lowest b, low, (λ (x : a ≡ b). d x))
      | inr n ↦
          let rest = fewer_colours width (a / 2) (b / 2) (omega (arith, pow-suc 2 width)) (below_half a b h) n in
          omega (arith, ones_step a, ones_step b, bit_at_lowest a, bit_at_lowest b, rest, low)
    ]

-- ---- the colours left in all cells

pub colours_change : (facts : Masks) (row col held : ℕ) → row < length facts → col < width_of facts → IsFacts facts
    → colours_left (with_cell facts row col held) + count_ones (cell_at facts row col) ≡ colours_left facts + count_ones held
colours_change facts row col held h w is =
    let new = with_cell facts row col held in
    let shape = shape_with_cell facts row col held in
    let wide = is.rectangular row h in
    let rows = shape.rows in
    let broad = shape.each 0 in
    let here = at_with_cell facts row col held h (omega arith) in
    let one = tally_change (λ c. count_ones (cell_at facts row c)) (λ c. count_ones (cell_at new row c)) (width_of facts) col w
    (λ c l d. ap count_ones (sym (off_with_cell facts row col held row c (λ p. d p.1)))) in
    let same : count_ones (cell_at new row col) ≡ count_ones held = ap count_ones here in
    let all = tally_change (λ r. tally (λ c. count_ones (cell_at facts r c)) (width_of facts)) (λ r. tally (λ c. count_ones (cell_at new r c)) (width_of facts)) (length facts) row h
    (λ r l d. tally_same (λ c. count_ones (cell_at facts r c)) (λ c. count_ones (cell_at new r c)) (width_of facts)
    (λ c k. ap count_ones (sym (off_with_cell facts row col held r c (λ p. d p.0))))) in
    let wide_new : colours_left new ≡ tally (λ r. tally (λ c. count_ones (cell_at new r c)) (width_of facts)) (length facts) = rw (← rows, ← broad) refl in
    omega arith

-- a cell has no more than all have
pub colours_in : (facts : Masks) (row col : ℕ) → row < length facts → col < width_of facts → count_ones (cell_at facts row col) ≤ colours_left facts
colours_in facts row col h w =
    let one = tally_part (λ c. count_ones (cell_at facts row c)) (width_of facts) col w in
    let all = tally_part (λ r. tally (λ c. count_ones (cell_at facts r c)) (width_of facts)) (length facts) row h in
    omega arith

-- at most sixteen for each cell
pub most_colours : (facts : Masks) → IsFacts facts → colours_left facts ≤ 16 * (length facts * width_of facts)
most_colours facts is =
    let all = tally_below (λ r. tally (λ c. count_ones (cell_at facts r c)) (width_of facts)) (length facts) (width_of facts * 16)
    (λ r l. tally_below (λ c. count_ones (cell_at facts r c)) (width_of facts) 16 (λ c k. ones-le 16 (cell_at facts r c) (is.masks r c))) in
    let e : length facts * (width_of facts * 16) ≡ 16 * (length facts * width_of facts) = omega arith in
    omega arith

-- fewer colours in a cell are fewer in all
pub colours_fewer : (facts : Masks) (row col held : ℕ) → row < length facts → col < width_of facts → IsFacts facts → ((k : ℕ) → IsBitSet held k → IsBitSet (cell_at facts row col) k)
    → colours_left (with_cell facts row col held) ≤ colours_left facts
colours_fewer facts row col held h w is left =
    let change = colours_change facts row col held h w is in
    let few = fewer_ones_of (cell_at facts row col) held left in
    omega arith

pub colours_lost : (facts : Masks) (row col held : ℕ) → row < length facts → col < width_of facts → IsFacts facts → ((k : ℕ) → IsBitSet held k → IsBitSet (cell_at facts row col) k)
    → (cell_at facts row col ≡ held → ⊥) → colours_left (with_cell facts row col held) + 1 ≤ colours_left facts
colours_lost facts row col held h w is left d =
    let change = colours_change facts row col held h w is in
    let few = fewer_colours 16 (cell_at facts row col) held (is.masks row col) left d in
    omega arith

-- ---- the two sides of a part

module _ (left colours : ℕ) (small : left < 2 ^ 16) (few : colours < 2 ^ 16) where
  pub held_left : (k : ℕ) → IsBitSet (bit_and left colours) k → IsBitSet left k
  held_left k s = (bits_of_and left colours k s).0

  pub rest_left : (k : ℕ) → IsBitSet (bit_and left (bit_not w16 colours)) k → IsBitSet left k
  rest_left k s = ((without_bit left colours k small few).0 s).0

  -- where the one side is all, the other is nothing
  pub held_all : left ≡ bit_and left colours → bit_and left (bit_not w16 colours) ≡ 0
  held_all e = same_bits (bit_and left (bit_not w16 colours)) 0 (λ k. (
    (λ s.
        let b = (without_bit left colours k small few).0 s in
        let P : ℕ → Type 0 = λ n. IsBitSet n k in
        absurd (b.1 (bits_of_and left colours k (subst P e b.0)).1)),
    (λ s. absurd (no_bit k s)),
  ))

  pub rest_all : left ≡ bit_and left (bit_not w16 colours) → bit_and left colours ≡ 0
  rest_all e = same_bits (bit_and left colours) 0 (λ k. (
    (λ s.
        let b = bits_of_and left colours k s in
        let P : ℕ → Type 0 = λ n. IsBitSet n k in
        absurd (((without_bit left colours k small few).0 (subst P e b.0)).1 b.1)),
    (λ s. absurd (no_bit k s)),
  ))
