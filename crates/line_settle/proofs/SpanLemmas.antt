-- The positions from which 1, 2, 4 and so on cells in a row are in a set, and what reaches a set over them.
use Rattle.std.proofs.Common.{◌≡◌, ℕ, suc, ◌+◌, ◌^◌, ◌<◌, ◌≤◌, List, ◌*◌, sym, ap, subst, ◌∙◌, arith, inl, inr, length, get_or, set}
use Rattle.std.proofs.lemmas.Bool.{cases_eq, cases_lt}
use Rattle.std.proofs.lemmas.List.{get_or-set_same, get_or-set_other}
use Rattle.std.proofs.lemmas.Nat.{pow_below}
use Rattle.std.proofs.Math.Pow.{pow_mono}
use Rattle.std.proofs.Math.Nat.{pow-succ'}
use Rattle.line_facts.specs.BitSets.{has}
use Rattle.line_settle.specs.Positions.{spans, AreSpans}

-- ---- the steps

pub step_next : (step k n : ℕ) → step ≡ 2 ^ k → n ≡ k + 1 → step + step ≡ 2 ^ n
step_next step k n e f =
    let z : n ≡ suc k = omega arith in
    let p : 2 ^ suc k ≡ 2 * 2 ^ k = pow-succ' 2 k in
    (let d : step + step ≡ 2 * 2 ^ k = omega arith in d) ∙ (sym p ∙ ap (λ m. 2 ^ m) (sym z))

pub step_below : (step k n : ℕ) → step ≡ 2 ^ k → k < n → step < 2 ^ n
step_below step k n e h = let l = pow_below k n h in omega arith

pub step_reached : (step k n : ℕ) → step ≡ 2 ^ k → n ≤ k → 2 ^ n ≤ step
step_reached step k n e h = let l : 2 ^ n ≤ 2 ^ k = pow_mono h in omega arith

-- the powers of two below a width that is one itself
pub below_rounds : (k n w : ℕ) → 2 ^ n ≡ w → 2 ^ k < w → k < n
below_rounds k n w e h = elim (cases_lt k n) [ inl l ↦ l | inr g ↦ (let l : 2 ^ n ≤ 2 ^ k = pow_mono g in absurd (omega arith)) ]

-- ---- the first n sets

abbrev pub AreFirst : ℕ → List ℕ → ℕ → Type 0
AreFirst cells spanned n = (k i : ℕ) → k < n → has (get_or spanned k 0) i ≡ spans (has cells) (2 ^ k) i

pub first_more : (cells span step k : ℕ) (spanned : List ℕ) → k < length spanned → step ≡ 2 ^ k → ((j : ℕ) → has span j ≡ spans (has cells) step j) → AreFirst cells spanned k
    → AreFirst cells (set spanned k span) (k + 1)
first_more cells span step k spanned room e is before n i h = elim (cases_eq n k) [
  | inl same ↦
      let P : ℕ → Type 0 = λ m. has (get_or (set spanned k span) m 0) i ≡ spans (has cells) (2 ^ m) i in
      subst P (sym same) (ap (λ s. has s i) (get_or-set_same spanned k span 0 room) ∙ (is i ∙ ap (λ m. spans (has cells) m i) e))
  | inr other ↦ ap (λ s. has s i) (get_or-set_other spanned k n span 0 other) ∙ before n i (omega arith)
]

-- ---- what reaches a set

-- the span of a step, as the set of all spans has it
pub spanned_by : (w cells step : ℕ) (spanned : List ℕ) (k : ℕ) → step ≡ 2 ^ k → step < w → AreSpans w cells spanned → (j : ℕ) → has (get_or spanned k 0) j ≡ spans (has cells) step j
spanned_by w cells step spanned k e l are j = are k j (omega arith) ∙ ap (λ n. spans (has cells) n j) (sym e)

pub ruleset stepping = (step_next, step_below)
