-- Spelling a pattern from a state: by one cell, and to the end.
use Rattle.std.proofs.Common.{◌≡◌, ◌≢◌, ℕ, suc, ◌+◌, ◌<◌, ◌≤◌, true, List, [], ◌∷◌, refl, sym, subst, arith, ◌⊎◌, inl, inr, length, get_or, drop, drop-cons, add-one}
use Rattle.std.proofs.lemmas.Bool.{cases_lt, and_parts, and_from, or_cases, or_left, or_right, not-true, not_from_false, eqb-false, leb-true, le-leb}
use Rattle.std.proofs.Common.{ne_eqb}
use Rattle.std.proofs.Math.ListN.{drop_of_length-le}
use Rattle.line_settle.specs.Patterns.{waits}
use Rattle.line_settle.proofs.SpellsLemmas.{Spells}

-- the line spells the pattern on from its cell q
abbrev pub SpellsAt : List ℕ → ℕ → List ℕ → Type 0
SpellsAt pattern q line = Spells (get_or pattern q 0) (drop (suc q) pattern) line

-- a cell of colour x leads from state q to state r
abbrev pub Step : List ℕ → ℕ → ℕ → ℕ → Type 0
Step pattern q x r = ((q + 1 < length pattern) × (x ≡ get_or pattern (q + 1) 0) × (r ≡ q + 1)) ⊎ ((x ≡ 0) × (waits pattern q ≡ true) × (r ≡ q))

pub waits_at_end : (pattern : List ℕ) (q : ℕ) → length pattern ≤ q + 1 → waits pattern q ≡ true
waits_at_end pattern q h = or_left _ _ (le-leb _ _ h)

pub waits_before : (pattern : List ℕ) (q : ℕ) → get_or pattern (q + 1) 0 ≢ 0 → get_or pattern (q + 1) 0 ≢ get_or pattern q 0 → waits pattern q ≡ true
waits_before pattern q a b = or_right _ _ (and_from _ _ (not_from_false _ (ne_eqb _ _ a)) (not_from_false _ (ne_eqb _ _ b)))

pub waiting : (pattern : List ℕ) (q : ℕ) → q + 1 < length pattern → waits pattern q ≡ true → (get_or pattern (q + 1) 0 ≢ 0) × (get_or pattern (q + 1) 0 ≢ get_or pattern q 0)
waiting pattern q h w = elim (or_cases _ _ w) [
  | inl a ↦ let i : length pattern ≤ q + 1 = leb-true _ _ a in absurd (omega arith)
  | inr b ↦ let p = and_parts _ _ b in (eqb-false _ _ (not-true _ p.0), eqb-false _ _ (not-true _ p.1))
]

rest_at : (pattern : List ℕ) (q : ℕ) → q + 1 < length pattern → drop (suc q) pattern ≡ get_or pattern (q + 1) 0 ∷ drop (suc (q + 1)) pattern
rest_at pattern q h = let i : suc q < length pattern = omega arith in rw add-one (drop-cons pattern (suc q) 0 i)

rest_at_end : (pattern : List ℕ) (q : ℕ) → length pattern ≤ q + 1 → drop (suc q) pattern ≡ []
rest_at_end pattern q h = drop_of_length-le pattern (let i : length pattern ≤ suc q = omega arith in i)

-- the state after a cell, and the spelling from there on
pub record Onward (pattern : List ℕ) (q x : ℕ) (line : List ℕ) : Type 0 where
  pub next : ℕ
  pub step : Step pattern q x next
  pub within : next < length pattern
  pub spells : SpellsAt pattern next line

pub spells_onward : (pattern : List ℕ) (q x : ℕ) (line : List ℕ) → q < length pattern → SpellsAt pattern q (x ∷ line) → Onward pattern q x line
spells_onward pattern q x line h s =
    let P : List ℕ → Type 0 = λ e. Spells (get_or pattern q 0) e (x ∷ line) in
    let K : List ℕ → Type 0 = λ e. Spells (get_or pattern q 0) e line in
    elim (cases_lt (q + 1) (length pattern)) [
      | inl l ↦
          let e = rest_at pattern q l in
          elim (subst P e s) [
            | inl a ↦ record { next = q + 1; step = inl (l, a.0, refl); within = l; spells = a.1 }
            | inr b ↦ record { next = q; step = inr (b.0, waits_before pattern q b.1 b.2, refl); within = h; spells = subst K (sym e) b.3 }
          ]
      | inr l ↦
          let e = rest_at_end pattern q l in
          let t = subst P e s in
          record { next = q; step = inr (t.0, waits_at_end pattern q l, refl); within = h; spells = subst K (sym e) t.1 }
    ]

spells_wait : (pattern : List ℕ) (q x : ℕ) (line : List ℕ) → x ≡ 0 → waits pattern q ≡ true → SpellsAt pattern q line → SpellsAt pattern q (x ∷ line)
spells_wait pattern q x line z w s =
    let P : List ℕ → Type 0 = λ e. Spells (get_or pattern q 0) e (x ∷ line) in
    let K : List ℕ → Type 0 = λ e. Spells (get_or pattern q 0) e line in
    elim (cases_lt (q + 1) (length pattern)) [
      | inl l ↦
          let e = rest_at pattern q l in
          let d = waiting pattern q l w in
          subst P (sym e) (inr (z, d.0, d.1, subst K e s))
      | inr l ↦
          let e = rest_at_end pattern q l in
          subst P (sym e) (z, subst K e s)
    ]

pub spells_from : (pattern : List ℕ) (q x r : ℕ) (line : List ℕ) → Step pattern q x r → SpellsAt pattern r line → SpellsAt pattern q (x ∷ line)
spells_from pattern q x r line step s = elim step [
  | inl a ↦
      let P : List ℕ → Type 0 = λ e. Spells (get_or pattern q 0) e (x ∷ line) in
      let K : ℕ → Type 0 = λ n. SpellsAt pattern n line in
      subst P (sym (rest_at pattern q a.0)) (inl (a.1, subst K a.2 s))
  | inr b ↦ let K : ℕ → Type 0 = λ n. SpellsAt pattern n line in spells_wait pattern q x line b.0 b.1 (subst K b.2 s)
]

-- only the last state is the pattern's end
pub spells_end : (pattern : List ℕ) (q : ℕ) → q < length pattern → SpellsAt pattern q [] → q + 1 ≡ length pattern
spells_end pattern q h s = elim (cases_lt (q + 1) (length pattern)) [
  | inl l ↦ let P : List ℕ → Type 0 = λ e. Spells (get_or pattern q 0) e [] in absurd (subst P (rest_at pattern q l) s)
  | inr l ↦ omega arith
]

pub end_spells : (pattern : List ℕ) (q : ℕ) → q + 1 ≡ length pattern → SpellsAt pattern q []
end_spells pattern q h =
    let P : List ℕ → Type 0 = λ e. Spells (get_or pattern q 0) e [] in
    subst P (sym (rest_at_end pattern q (omega arith))) tt
