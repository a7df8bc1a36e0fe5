-- Each colour that a mask leaves is among its colours.
use Rattle.std.proofs.Common.{◌≡◌, ℕ, zero, suc, ◌+◌, ◌^◌, ◌<◌, ◌≤◌, ◌⊎◌, ◌==◌, Bool, true, false, cond, eq-eqb, List, [], ◌∷◌, refl, sym, ap, subst, ◌∙◌, arith, inl, inr}
use Rattle.std.specs.Prelude.{IsBitSet}
use Rattle.std.specs.List.{filter, range_with_len}
use Rattle.std.specs.Int.{bit_at}
use Rattle.std.proofs.lemmas.Bool.{cases_eq}
use Rattle.picture.proofs.BitLaws.{bit_below, set_bit}
use Rattle.line_facts.specs.Branches.{colours_of}

-- a number in a list of numbers
abbrev pub Among : List ℕ → ℕ → Type 0
Among [] x = ⊥
Among (y ∷ ys) x = (x ≡ y) ⊎ Among ys x

tested : (p : ℕ → Bool) (k n : ℕ) (b : Bool) → p k ≡ b → filter p (range_with_len k (suc n)) ≡ cond b (k ∷ filter p (range_with_len (k + 1) n)) (filter p (range_with_len (k + 1) n))
tested p k n b e = ap (λ (t : Bool). cond t (k ∷ filter p (range_with_len (k + 1) n)) (filter p (range_with_len (k + 1) n))) e

pub among_kept : (p : ℕ → Bool) (k n x : ℕ) → k ≤ x → x < k + n → p x ≡ true → Among (filter p (range_with_len k n)) x
among_kept p k zero x l m e = absurd (omega arith)
among_kept p k (suc n) x l m e = elim (cases_eq x k) [
  | inl same ↦
      rw (tested p k n true (ap p (sym same) ∙ e)) (inl same)
  | inr d ↦
      let rest = among_kept p (k + 1) n x (omega arith) (omega arith) e in
      by (p k) refl rest
]
  where
    by : (b : Bool) → p k ≡ b → Among (filter p (range_with_len (k + 1) n)) x → Among (filter p (range_with_len k (suc n))) x
    by true e r = let P : List ℕ → Type 0 = λ xs. Among xs x in subst P (sym (tested p k n true e)) (inr r)
    by false e r = let P : List ℕ → Type 0 = λ xs. Among xs x in subst P (sym (tested p k n false e)) r

pub among_left : (mask k : ℕ) → k < 16 → IsBitSet mask k → Among (colours_of mask) k
unfolding colours_of
among_left mask k small left = among_kept (λ j. bit_at mask j == 1) 0 16 k (omega arith) (omega arith) (eq-eqb (bit_at mask k) 1 (set_bit mask k left))

pub among_colours : (mask x : ℕ) → mask < 2 ^ 16 → IsBitSet mask x → Among (colours_of mask) x
among_colours mask x small s = among_left mask x (bit_below mask 16 x small s) s
