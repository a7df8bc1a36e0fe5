-- A cell has as many branches as its mask has colours.
use Rattle.std.proofs.Common.{◌≡◌, ℕ, zero, suc, ◌+◌, ◌/◌, ◌^◌, ◌<◌, ◌==◌, Bool, true, false, cond, List, ◌∷◌, length, refl, ap, ◌∙◌, arith, count_ones, filter}
use Rattle.std.specs.Int.{bit_at}
use Rattle.std.specs.Int.Count.{ones_step}
use Rattle.std.specs.List.{range_with_len}
use Rattle.std.proofs.lemmas.List.{length-map}
use Rattle.std.proofs.lemmas.Nat.{ones_le_self}
use Rattle.std.proofs.lemmas.Nat.Bits.{bit_at-lt, bit_at-suc, bit_at_lowest}
use Rattle.line_facts.specs.Masks.{Masks}
use Rattle.picture.specs.Rows.{with_cell}
use Rattle.line_facts.specs.Branches.{branches, colours_of}

one_more : (b : Bool) (k : ℕ) (ks : List ℕ) → length (cond b (k ∷ ks) ks) ≡ cond b 1 0 + length ks
one_more true k ks = omega arith
one_more false k ks = omega arith

bit_counted : (m : ℕ) → m < 2 → cond (m == 1) 1 0 ≡ m
bit_counted zero l = refl
bit_counted (suc zero) l = refl
bit_counted (suc (suc m)) l = absurd (omega arith)

-- the numbers from k on that pass a test, where it asks for the bits of a mask
tested : (p : ℕ → Bool) (k n mask : ℕ) → ((i : ℕ) → p (k + i) ≡ (bit_at mask i == 1)) → mask < 2 ^ n → length (filter p (range_with_len k n)) ≡ count_ones mask
tested p k zero mask is small = omega (arith, ones_le_self mask)
tested p k (suc n) mask is small =
    let rest = tested p (k + 1) n (mask / 2) (λ i. ap p (omega arith) ∙ is (suc i) ∙ ap (λ (b : ℕ). b == 1) (bit_at-suc mask i)) (omega arith) in
    let first : cond (p k) 1 0 ≡ bit_at mask 0 = ap (λ (i : ℕ). cond (p i) 1 0) (omega arith) ∙ ap (λ (b : Bool). cond b 1 0) (is 0) ∙ bit_counted (bit_at mask 0) (bit_at-lt mask 0) in
    one_more (p k) k (filter p (range_with_len (k + 1) n)) ∙ omega (arith, rest, first, bit_at_lowest mask, ones_step mask)

pub all_branches : (facts : Masks) (row col mask : ℕ) → mask < 2 ^ 16 → length (branches facts row col mask) ≡ count_ones mask
unfolding colours_of
all_branches facts row col mask small =
    let same : (i : ℕ) → (bit_at mask (0 + i) == 1) ≡ (bit_at mask i == 1) = λ i. let e : 0 + i ≡ i = omega arith in ap (λ (k : ℕ). bit_at mask k == 1) e in
    length-map (colours_of mask) (λ (k : ℕ). with_cell facts row col (2 ^ k)) ∙ tested (λ k. bit_at mask k == 1) 0 16 mask same small
