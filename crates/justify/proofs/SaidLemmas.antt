-- What premises say can be looked up.
use Rattle.std.proofs.Common.{◌≡◌, ℕ, zero, suc, ◌<◌, ◌⊎◌, List, length, inl, inr, subst, arith, bit_and, ◌^◌}
use Rattle.std.specs.Prelude.{IsBitSet}
use Rattle.std.proofs.lemmas.Bool.{cases_eq}
use Rattle.justify.specs.declared.premise.Premise.{Premise}
use Rattle.justify.specs.Premises.{premise_at, Mentions, Says}

-- among the first n places one has a fact that can be tested, or none has
pub below_or_none : (P : ℕ → Type 0) → ((m : ℕ) → P m ⊎ (P m → ⊥)) → (n : ℕ) → ((m : ℕ) × (m < n) × P m) ⊎ ((m : ℕ) → m < n → P m → ⊥)
below_or_none P d zero = inr (λ m l p. absurd (omega arith))
below_or_none P d (suc n) = elim (d n) [
  | inl here ↦ inl (n, omega arith, here)
  | inr not_here ↦ elim (below_or_none P d n) [
    | inl w ↦ inl (w.0, (let l = w.1 in omega arith), w.2)
    | inr none ↦ inr (λ m l p. elim (cases_eq m n) [ inl e ↦ not_here (subst P e p) | inr other ↦ none m (omega arith) p ])
  ]
]

pub bit_or_not : (n k : ℕ) → IsBitSet n k ⊎ (IsBitSet n k → ⊥)
bit_or_not n k = elim (cases_eq (bit_and n (2 ^ k)) 0) [ inl e ↦ inr (λ s. s e) | inr n ↦ inl n ]

both_or_not : {A B : Type 0} → A ⊎ (A → ⊥) → B ⊎ (B → ⊥) → (A × B) ⊎ (A × B → ⊥)
both_or_not (inl a) (inl b) = inl (a, b)
both_or_not (inl a) (inr n) = inr (λ p. n p.1)
both_or_not (inr n) y = inr (λ p. n p.0)

-- premise m is at place i and has colour k
pub record SaysAt (premises : List Premise) (m i k : ℕ) : Type 0 where
  pub here : (premise_at premises m).at ≡ i
  pub colour : IsBitSet (premise_at premises m).colours k

pub says_or_not : (premises : List Premise) (i k : ℕ) → Says premises i k ⊎ (Says premises i k → ⊥)
says_or_not premises i k =
    let P : ℕ → Type 0 = λ m. ((premise_at premises m).at ≡ i) × IsBitSet (premise_at premises m).colours k in
    elim (below_or_none P (λ m. both_or_not (cases_eq (premise_at premises m).at i) (bit_or_not (premise_at premises m).colours k)) (length premises)) [
      | inl w ↦ inl (record { which = w.0; within = w.1; here = w.2.0; colour = w.2.1 })
      | inr none ↦ inr (λ s. none s.which s.within (s.here, s.colour))
    ]

pub mentions_or_not : (premises : List Premise) (i : ℕ) → Mentions premises i ⊎ (Mentions premises i → ⊥)
mentions_or_not premises i =
    let P : ℕ → Type 0 = λ m. (premise_at premises m).at ≡ i in
    elim (below_or_none P (λ m. cases_eq (premise_at premises m).at i) (length premises)) [
      | inl w ↦ inl (record { which = w.0; within = w.1; here = w.2 })
      | inr none ↦ inr (λ s. none s.which s.within s.here)
    ]
