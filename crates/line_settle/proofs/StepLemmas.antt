-- What one step of the tables says of one cell of a line.
use Rattle.std.proofs.Common.{◌≡◌, ℕ, ◌+◌, ◌-◌, ◌<◌, Bool, true, List, refl, sym, ap, subst, ◌∙◌, arith, inl, inr, length, get_or, eq-eqb}
use Rattle.std.proofs.lemmas.Bool.{and_parts, and_from, or_cases, or_left, or_right, eqb-true, ltb-true, lt-ltb}
use Rattle.line_settle.specs.Patterns.{allows, waits, finish_step, reach_step, passes}
use Rattle.line_settle.proofs.StateLemmas.{Step}

-- a cell with colour x of the mask leads from state q to one of the states `good`
pub record Crosses (pattern : List ℕ) (mask : ℕ) (good : ℕ → Bool) (q x : ℕ) : Type 0 where
  pub next : ℕ
  pub step : Step pattern q x next
  pub allowed : allows mask x ≡ true
  pub reaches_good : good next ≡ true

forward : (pattern : List ℕ) (mask : ℕ) (good : ℕ → Bool) (q : ℕ) → q + 1 < length pattern → allows mask (get_or pattern (q + 1) 0) ≡ true → good (q + 1) ≡ true
    → Crosses pattern mask good q (get_or pattern (q + 1) 0)
forward pattern mask good q l a g = record { next = q + 1; step = inl (l, refl, refl); allowed = a; reaches_good = g }

stay : (pattern : List ℕ) (mask : ℕ) (good : ℕ → Bool) (q x : ℕ) → x ≡ 0 → waits pattern q ≡ true → allows mask x ≡ true → good q ≡ true → Crosses pattern mask good q x
stay pattern mask good q x z w a g = record { next = q; step = inr (z, w, refl); allowed = a; reaches_good = g }

pub crosses_finish : (pattern : List ℕ) (mask : ℕ) (later : ℕ → Bool) (q x : ℕ) → Crosses pattern mask later q x → finish_step pattern mask later q ≡ true
crosses_finish pattern mask later q x c = elim c.step [
  | inl a ↦ or_left _ _ (and_from _ _ (lt-ltb _ _ a.0) (and_from _ _ (ap (allows mask) (sym a.1) ∙ c.allowed) (ap later (sym a.2) ∙ c.reaches_good)))
  | inr b ↦ or_right _ _ (and_from _ _ b.1 (and_from _ _ (ap (allows mask) (sym b.0) ∙ c.allowed) (ap later (sym b.2) ∙ c.reaches_good)))
]

pub finish_crosses : (pattern : List ℕ) (mask : ℕ) (later : ℕ → Bool) (q : ℕ) → finish_step pattern mask later q ≡ true → (x : ℕ) × Crosses pattern mask later q x
finish_crosses pattern mask later q h = elim (or_cases _ _ h) [
  | inl a ↦
      let l = and_parts _ _ a in
      let r = and_parts _ _ l.1 in
      (get_or pattern (q + 1) 0, forward pattern mask later q (ltb-true _ _ l.0) r.0 r.1)
  | inr b ↦
      let l = and_parts _ _ b in
      let r = and_parts _ _ l.1 in
      (0, stay pattern mask later q 0 refl l.0 r.0 r.1)
]

pub crosses_pass : (pattern : List ℕ) (mask : ℕ) (before later : ℕ → Bool) (q k : ℕ) → before q ≡ true → Crosses pattern mask later q k → passes pattern mask before later q k ≡ true
crosses_pass pattern mask before later q k h c = and_from _ _ h (elim c.step [
  | inl a ↦ or_left _ _ (and_from _ _ (and_from _ _ (lt-ltb _ _ a.0) (and_from _ _ (ap (allows mask) (sym a.1) ∙ c.allowed) (ap later (sym a.2) ∙ c.reaches_good))) (eq-eqb _ _ (sym a.1)))
  | inr b ↦ or_right _ _ (and_from _ _ (and_from _ _ b.1 (and_from _ _ (ap (allows mask) (sym b.0) ∙ c.allowed) (ap later (sym b.2) ∙ c.reaches_good))) (eq-eqb _ _ (sym b.0)))
])

pub pass_crosses : (pattern : List ℕ) (mask : ℕ) (before later : ℕ → Bool) (q k : ℕ) → passes pattern mask before later q k ≡ true → (before q ≡ true) × Crosses pattern mask later q k
pass_crosses pattern mask before later q k h =
    let p = and_parts _ _ h in (
      p.0,
      elim (or_cases _ _ p.1) [
        | inl a ↦
            let l = and_parts _ _ a in
            let r = and_parts _ _ l.0 in
            let t = and_parts _ _ r.1 in
            let K : ℕ → Type 0 = λ x. Crosses pattern mask later q x in
            subst K (eqb-true _ _ l.1) (forward pattern mask later q (ltb-true _ _ r.0) t.0 t.1)
        | inr b ↦
            let l = and_parts _ _ b in
            let r = and_parts _ _ l.0 in
            let t = and_parts _ _ r.1 in
            let K : ℕ → Type 0 = λ x. Crosses pattern mask later q x in
            subst K (eqb-true _ _ l.1) (stay pattern mask later q 0 refl r.0 t.0 t.1)
      ],
    )

-- a state that a cell leads to from one of the states `before`
pub record Reached (pattern : List ℕ) (mask : ℕ) (before : ℕ → Bool) (r : ℕ) : Type 0 where
  pub from : ℕ
  pub colour : ℕ
  pub was : before from ≡ true
  pub step : Step pattern from colour r
  pub allowed : allows mask colour ≡ true

pub step_reaches : (pattern : List ℕ) (mask : ℕ) (before : ℕ → Bool) (q x r : ℕ) → before q ≡ true → allows mask x ≡ true → Step pattern q x r → reach_step pattern mask before r ≡ true
step_reaches pattern mask before q x r h a step = elim step [
  | inl s ↦
      let e : r - 1 ≡ q = omega arith in
      let l : 0 < r = omega arith in
      or_left _ _ (and_from _ _ (lt-ltb _ _ l) (and_from _ _ (ap (λ n. allows mask (get_or pattern n 0)) s.2 ∙ (ap (allows mask) (sym s.1) ∙ a)) (ap before e ∙ h)))
  | inr s ↦ or_right _ _ (and_from _ _ (ap (waits pattern) s.2 ∙ s.1) (and_from _ _ (ap (allows mask) (sym s.0) ∙ a) (ap before s.2 ∙ h)))
]

one_before : (r : ℕ) → 0 < r → r - 1 + 1 ≡ r
one_before r h = omega arith

pub reached_by_step : (pattern : List ℕ) (mask : ℕ) (before : ℕ → Bool) (r : ℕ) → r < length pattern → reach_step pattern mask before r ≡ true → Reached pattern mask before r
reached_by_step pattern mask before r h e = elim (or_cases _ _ e) [
  | inl a ↦
      let l = and_parts _ _ a in
      let t = and_parts _ _ l.1 in
      let n : r - 1 + 1 ≡ r = one_before r (ltb-true _ _ l.0) in
      record {
        from = r - 1;
        colour = get_or pattern r 0;
        was = t.1;
        step = inl (subst (λ k. k < length pattern) (sym n) h, ap (λ k. get_or pattern k 0) (sym n), sym n);
        allowed = t.0;
      }
  | inr b ↦
      let l = and_parts _ _ b in
      let t = and_parts _ _ l.1 in
      record { from = r; colour = 0; was = t.1; step = inr (refl, l.0, refl); allowed = t.0 }
]
