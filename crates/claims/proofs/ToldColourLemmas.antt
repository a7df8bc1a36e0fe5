-- The mask of a list of colours, and the colours of a mask.
use Rattle.std.proofs.Common.{◌≡◌, ◌⊎◌, ℕ, zero, suc, ◌+◌, ◌^◌, ◌<◌, ◌≤◌, ◌==◌, Bool, true, false, cond, eqb-true, List, [], ◌∷◌, bit_and, bit_or, refl, sym, subst, arith, inl, inr}
use Rattle.std.specs.Prelude.{IsBitSet}
use Rattle.std.specs.Int.{bit_at, bit_not, w16}
use Rattle.std.specs.List.{filter, range_with_len}
use Rattle.std.proofs.lemmas.Nat.{pow_pos}
use Rattle.std.proofs.lemmas.Nat.Bits.{bit_at_or, bit_at-lt}
use Rattle.picture.proofs.BitLaws.{bit_is_set, bit_or_not, fewer_le, no_bit, power_has, same_bits, set_bit, unset}
use Rattle.line_facts.specs.Branches.{colours_of}
use Rattle.line_facts.proofs.MaskLaws.{full_has, without_bit}
use Rattle.trail.proofs.ColourLemmas.{Among, among_colours}
use Rattle.cert_check.proofs.MaskLemmas.{bits_in_and, bits_of_and}
use Rattle.claims.specs.Told.{mask_of}

-- ---- a bit of one mask or of another

either : (a b k : ℕ) → IsBitSet (bit_or a b) k → IsBitSet a k ⊎ IsBitSet b k
either a b k s = elim (bit_or_not a k) [
  | inl is ↦ inl is
  | inr isnt ↦ let x = set_bit (bit_or a b) k s in let most = bit_at_or a b k in let z = unset a k isnt in inr (bit_is_set b k (omega (arith, bit_at-lt b k)))
]

in_first : (a b k : ℕ) → IsBitSet a k → IsBitSet (bit_or a b) k
in_first a b k s = let x = set_bit a k s in let most = bit_at_or a b k in bit_is_set (bit_or a b) k (omega (arith, bit_at-lt b k))

in_second : (a b k : ℕ) → IsBitSet b k → IsBitSet (bit_or a b) k
in_second a b k s = let x = set_bit b k s in let most = bit_at_or a b k in bit_is_set (bit_or a b) k (omega (arith, bit_at-lt a k))

-- ---- the mask of some colours

masked : (colours : List ℕ) (k : ℕ) → IsBitSet (mask_of colours) k → Among colours k
masked [] k s = no_bit k s
masked (colour ∷ colours) k s = elim (either (2 ^ colour) (mask_of colours) k s) [ inl is ↦ inl ((power_has colour k).0 is) | inr is ↦ inr (masked colours k is) ]

among_masked : (colours : List ℕ) (k : ℕ) → Among colours k → IsBitSet (mask_of colours) k
among_masked [] k a = absurd a
among_masked (colour ∷ colours) k (inl e) = in_first (2 ^ colour) (mask_of colours) k ((power_has colour k).1 e)
among_masked (colour ∷ colours) k (inr a) = in_second (2 ^ colour) (mask_of colours) k (among_masked colours k a)

pub one_colour : (colour : ℕ) → mask_of (colour ∷ []) ≡ 2 ^ colour
one_colour colour = same_bits (mask_of (colour ∷ [])) (2 ^ colour) (λ k. (
  (λ s. elim (either (2 ^ colour) 0 k s) [ inl is ↦ is | inr none ↦ absurd (no_bit k none) ]),
  (λ s. in_first (2 ^ colour) 0 k s),
))

-- ---- the colours of a mask

passes : (p : ℕ → Bool) (xs : List ℕ) (x : ℕ) → Among (filter p xs) x → p x ≡ true
passes p [] x a = absurd a
passes p (y ∷ ys) x a = by (p y) refl a (passes p ys x)
  where
    by : (b : Bool) → p y ≡ b → Among (filter p (y ∷ ys)) x → (Among (filter p ys) x → p x ≡ true) → p x ≡ true
    by true e m rest = elim (subst (λ (t : Bool). Among (cond t (y ∷ filter p ys) (filter p ys)) x) e m) [ inl same ↦ rw same e | inr other ↦ rest other ]
    by false e m rest = rest (subst (λ (t : Bool). Among (cond t (y ∷ filter p ys) (filter p ys)) x) e m)

left_there : (mask k : ℕ) → Among (colours_of mask) k → IsBitSet mask k
unfolding colours_of
left_there mask k a = bit_is_set mask k (eqb-true (bit_at mask k) 1 (passes (λ j. bit_at mask j == 1) (range_with_len 0 16) k a))

pub mask_back : (mask : ℕ) → mask < 2 ^ 16 → mask_of (colours_of mask) ≡ mask
mask_back mask small = same_bits (mask_of (colours_of mask)) mask (λ k. (
  (λ s. left_there mask k (masked (colours_of mask) k s)),
  (λ s. among_masked (colours_of mask) k (among_colours mask k small s)),
))

-- ---- colours in ascending order

-- colours below 16 from a number on, in ascending order
abbrev pub Ascend : ℕ → List ℕ → Type 0
Ascend least [] = Unit {0}
Ascend least (colour ∷ colours) = (least ≤ colour) × (colour < 16) × Ascend (colour + 1) colours

from_less : (less least : ℕ) (colours : List ℕ) → less ≤ least → Ascend least colours → Ascend less colours
from_less less least [] l a = tt
from_less less least (colour ∷ colours) l a = ((let m = a.0 in omega arith), a.1, a.2)

kept_ascend : (p : ℕ → Bool) (k n : ℕ) → k + n ≤ 16 → Ascend k (filter p (range_with_len k n))
kept_ascend p k zero l = tt
kept_ascend p k (suc n) l = by (p k) refl (kept_ascend p (k + 1) n (omega arith))
  where
    by : (b : Bool) → p k ≡ b → Ascend (k + 1) (filter p (range_with_len (k + 1) n)) → Ascend k (filter p (range_with_len k (suc n)))
    by true e a = subst (λ (t : Bool). Ascend k (cond t (k ∷ filter p (range_with_len (k + 1) n)) (filter p (range_with_len (k + 1) n)))) (sym e) ((omega arith), (omega arith), a)
    by false e a =
        subst (λ (t : Bool). Ascend k (cond t (k ∷ filter p (range_with_len (k + 1) n)) (filter p (range_with_len (k + 1) n)))) (sym e)
        (from_less k (k + 1) (filter p (range_with_len (k + 1) n)) (omega arith) a)

pub colours_ascend : (mask : ℕ) → Ascend 0 (colours_of mask)
unfolding colours_of
colours_ascend mask = kept_ascend (λ j. bit_at mask j == 1) 0 16 (omega arith)

bounded : (least k : ℕ) (colours : List ℕ) → Ascend least colours → Among colours k → (least ≤ k) × (k < 16)
bounded least k [] a m = absurd m
bounded least k (colour ∷ colours) a (inl e) = ((let l = a.0 in omega arith), (let s = a.1 in omega arith))
bounded least k (colour ∷ colours) a (inr m) = let b = bounded (colour + 1) k colours a.2 m in ((let l = a.0 in omega (arith, b.0)), b.1)

pub mask_small : (least : ℕ) (colours : List ℕ) → Ascend least colours → mask_of colours < 2 ^ 16
mask_small least colours a = let l = fewer_le (mask_of colours) 65535 (λ k s. full_has k (bounded least k colours a (masked colours k s)).1) in omega arith

pub mask_some : (colour : ℕ) (colours : List ℕ) → 0 < mask_of (colour ∷ colours)
mask_some colour colours =
    let l = fewer_le (2 ^ colour) (mask_of (colour ∷ colours)) (λ k s. in_first (2 ^ colour) (mask_of colours) k s) in
    let some = pow_pos colour in
    omega arith

-- without the others the first is left, and with the others alone they are
pub first_left : (least colour : ℕ) (colours : List ℕ) → Ascend least (colour ∷ colours) → bit_and (mask_of (colour ∷ colours)) (bit_not w16 (mask_of colours)) ≡ 2 ^ colour
first_left least colour colours a = same_bits (bit_and (mask_of (colour ∷ colours)) (bit_not w16 (mask_of colours))) (2 ^ colour) (λ k.
    let off = without_bit (mask_of (colour ∷ colours)) (mask_of colours) k (mask_small least (colour ∷ colours) a) (mask_small (colour + 1) colours a.2) in (
      (λ s. let b = off.0 s in elim (either (2 ^ colour) (mask_of colours) k b.0) [ inl is ↦ is | inr other ↦ absurd (b.1 other) ]),
      (λ s. off.1 (
        in_first (2 ^ colour) (mask_of colours) k s,
        λ t.
            let e = (power_has colour k).0 s in
            let b = bounded (colour + 1) k colours a.2 (masked colours k t) in
            absurd (omega (arith, b.0)),
      )),
    ))

pub others_left : (colour : ℕ) (colours : List ℕ) → bit_and (mask_of (colour ∷ colours)) (mask_of colours) ≡ mask_of colours
others_left colour colours = same_bits (bit_and (mask_of (colour ∷ colours)) (mask_of colours)) (mask_of colours) (λ k. (
  (λ s. (bits_of_and (mask_of (colour ∷ colours)) (mask_of colours) k s).1),
  (λ s. bits_in_and (mask_of (colour ∷ colours)) (mask_of colours) k (in_second (2 ^ colour) (mask_of colours) k s) s),
))
