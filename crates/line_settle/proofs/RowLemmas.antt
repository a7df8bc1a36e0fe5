-- A row of truth values that is stepped in place, from one end to the other.
use Rattle.std.proofs.Common.{◌≡◌, ◌≢◌, ℕ, ◌+◌, ◌-◌, ◌<◌, ◌≤◌, Bool, false, List, refl, sym, subst, ◌∙◌, arith, inl, inr, length, get_or-set_other, get_or-set_same}
use Rattle.std.proofs.Math.ListN.{set}
use Rattle.std.proofs.lemmas.Bool.{cases_eq}
use Rattle.line_settle.specs.Patterns.{finish_step, reach_step, truth_at}

finish_step_same : (pattern : List ℕ) (mask : ℕ) (f g : ℕ → Bool) (q : ℕ) → f (q + 1) ≡ g (q + 1) → f q ≡ g q → finish_step pattern mask f q ≡ finish_step pattern mask g q
finish_step_same pattern mask f g q h k = rw (h, k) refl

reach_step_same : (pattern : List ℕ) (mask : ℕ) (f g : ℕ → Bool) (q : ℕ) → f (q - 1) ≡ g (q - 1) → f q ≡ g q → reach_step pattern mask f q ≡ reach_step pattern mask g q
reach_step_same pattern mask f g q h k = rw (h, k) refl

written : (row : List Bool) (q : ℕ) (v : Bool) → q < length row → truth_at (set row q v) q ≡ v
written row q v h = get_or-set_same row q v false h

others : (row : List Bool) (q r : ℕ) (v : Bool) → r ≢ q → truth_at (set row q v) r ≡ truth_at row r
others row q r v h = get_or-set_other row q r v false h

pub stepped_back : (pattern : List ℕ) (mask : ℕ) (start row : List Bool) (q : ℕ) (v : Bool) → q < length row → ((r : ℕ) → r < q → truth_at row r ≡ finish_step pattern mask (truth_at start) r)
    → ((r : ℕ) → q ≤ r → truth_at row r ≡ truth_at start r) → v ≡ finish_step pattern mask (truth_at row) q → (r : ℕ) → r < q + 1
    → truth_at (set row q v) r ≡ finish_step pattern mask (truth_at start) r
stepped_back pattern mask start row q v h stepped kept e r l = elim (cases_eq r q) [
  | inl i ↦
      let P : ℕ → Type 0 = λ n. truth_at (set row q v) n ≡ finish_step pattern mask (truth_at start) n in
      subst P (sym i) (written row q v h ∙ (e ∙ finish_step_same pattern mask (truth_at row) (truth_at start) q (kept (q + 1) (omega arith)) (kept q (omega arith))))
  | inr n ↦ others row q r v n ∙ stepped r (omega arith)
]

pub stepped_forward : (pattern : List ℕ) (mask : ℕ) (start row : List Bool) (q n : ℕ) (v : Bool) → q < length row → n ≡ q + 1
    → ((r : ℕ) → n ≤ r → r < length pattern → truth_at row r ≡ reach_step pattern mask (truth_at start) r) → ((r : ℕ) → r < n → truth_at row r ≡ truth_at start r)
    → v ≡ reach_step pattern mask (truth_at row) q → (r : ℕ) → q ≤ r → r < length pattern → truth_at (set row q v) r ≡ reach_step pattern mask (truth_at start) r
stepped_forward pattern mask start row q n v h m stepped kept e r l w = elim (cases_eq r q) [
  | inl i ↦
      let P : ℕ → Type 0 = λ n. truth_at (set row q v) n ≡ reach_step pattern mask (truth_at start) n in
      subst P (sym i) (written row q v h ∙ (e ∙ reach_step_same pattern mask (truth_at row) (truth_at start) q (kept (q - 1) (omega arith)) (kept q (omega arith))))
  | inr d ↦ others row q r v d ∙ stepped r (omega arith) w
]

pub kept_apart : (start row : List Bool) (q r : ℕ) (v : Bool) → r ≢ q → truth_at row r ≡ truth_at start r → truth_at (set row q v) r ≡ truth_at start r
kept_apart start row q r v n e = others row q r v n ∙ e

pub ruleset rows = (stepped_back, stepped_forward, kept_apart)
