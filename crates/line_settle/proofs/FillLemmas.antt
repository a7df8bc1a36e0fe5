-- Filling the tables cell by cell.
use Rattle.std.proofs.Common.{◌≡◌, ◌≢◌, ℕ, zero, suc, ◌+◌, ◌-◌, ◌*◌, ◌<◌, ◌≤◌, Bool, false, List, ◌∷◌, ◌==◌, ◌&&◌, ◌||◌, nat_lt, refl, sym, ap, subst, ◌∙◌, arith, inl, inr, length, get_or, take, drop}
use Rattle.std.proofs.Common.{drop-cons, add-one, get_or-set_same, get_or-set_other}
use Rattle.std.proofs.lemmas.Bool.Decides.{nat_tests}
use Rattle.std.proofs.Math.ListN.{set}
use Rattle.std.proofs.Math.Seq.{drop-length}
use Rattle.std.proofs.lemmas.List.{get_or-take, get_or-drop}
use Rattle.std.proofs.lemmas.Bool.{cases_lt, cases_eq, le-ltb}
use Rattle.line_settle.specs.Patterns.{allows, waits, advances, rests, finish_step, finishes, reach_step, reaches, passes, passes_below, truth_at, table_row}

-- two rows that agree below n
abbrev pub Agree : ℕ → (ℕ → Bool) → (ℕ → Bool) → Type 0
Agree n f g = (q : ℕ) → q < n → f q ≡ g q

advances_same : (pattern : List ℕ) (mask : ℕ) (f g : ℕ → Bool) → Agree (length pattern) f g → (q : ℕ) → advances pattern mask f q ≡ advances pattern mask g q
advances_same pattern mask f g h q = elim (cases_lt (q + 1) (length pattern)) [
  | inl l ↦ ap (λ x. nat_lt (q + 1) (length pattern) && (allows mask (get_or pattern (q + 1) 0) && x)) (h (q + 1) l)
  | inr l ↦
      let e : nat_lt (q + 1) (length pattern) ≡ false = le-ltb (q + 1) (length pattern) l in
      let c : (x : Bool) → nat_lt (q + 1) (length pattern) && x ≡ false = λ x. ap (λ b. b && x) e in
      c _ ∙ sym (c _)
]

rests_same : (pattern : List ℕ) (mask : ℕ) (f g : ℕ → Bool) (q : ℕ) → f q ≡ g q → rests pattern mask f q ≡ rests pattern mask g q
rests_same pattern mask f g q h = ap (λ x. waits pattern q && (allows mask 0 && x)) h

finish_step_agree : (pattern : List ℕ) (mask : ℕ) (f g : ℕ → Bool) → Agree (length pattern) f g → (q : ℕ) → q < length pattern → finish_step pattern mask f q ≡ finish_step pattern mask g q
finish_step_agree pattern mask f g h q l =
    ap (λ x. x || rests pattern mask f q) (advances_same pattern mask f g h q) ∙ ap (λ x. advances pattern mask g q || x) (rests_same pattern mask f g q (h q l))

pub reach_step_agree : (pattern : List ℕ) (mask : ℕ) (f g : ℕ → Bool) → Agree (length pattern) f g → (q : ℕ) → q < length pattern → reach_step pattern mask f q ≡ reach_step pattern mask g q
reach_step_agree pattern mask f g h q l =
    ap (λ x. (nat_lt 0 q && (allows mask (get_or pattern q 0) && x)) || rests pattern mask f q) (h (q - 1) (omega arith))
    ∙ ap (λ x. (nat_lt 0 q && (allows mask (get_or pattern q 0) && g (q - 1))) || x) (rests_same pattern mask f g q (h q l))

passes_agree : (pattern : List ℕ) (mask : ℕ) (f g t u : ℕ → Bool) → Agree (length pattern) f g → Agree (length pattern) t u → (q k : ℕ) → q < length pattern
    → passes pattern mask f t q k ≡ passes pattern mask g u q k
passes_agree pattern mask f g t u h i q k l =
    ap (λ x. x && ((advances pattern mask t q && get_or pattern (q + 1) 0 == k) || (rests pattern mask t q && 0 == k))) (h q l)
    ∙ (ap (λ x. g q && ((x && get_or pattern (q + 1) 0 == k) || (rests pattern mask t q && 0 == k))) (advances_same pattern mask t u i q)
    ∙ ap (λ x. g q && ((advances pattern mask u q && get_or pattern (q + 1) 0 == k) || (x && 0 == k))) (rests_same pattern mask t u q (i q l)))

passes_below_agree : (pattern : List ℕ) (mask : ℕ) (f g t u : ℕ → Bool) → Agree (length pattern) f g → Agree (length pattern) t u → (n k : ℕ) → n ≤ length pattern
    → passes_below pattern mask f t n k ≡ passes_below pattern mask g u n k
passes_below_agree pattern mask f g t u h i zero k l = refl
passes_below_agree pattern mask f g t u h i (suc n) k l =
    ap (λ x. x || passes pattern mask f t n k) (passes_below_agree pattern mask f g t u h i n k (omega arith))
    ∙ ap (λ x. passes_below pattern mask g u n k || x) (passes_agree pattern mask f g t u h i n k (omega arith))

same_test : (q m : ℕ) → 0 < m → (q == m - 1) ≡ (q + 1 == m)
same_test q m h = grind (arith, nat_tests)

-- the row after cell i gives the row before it
finishing_before : (pattern left : List ℕ) (i : ℕ) (f : ℕ → Bool) → i < length left → Agree (length pattern) f (finishes pattern (drop (i + 1) left)) → (q : ℕ) → q < length pattern
    → finish_step pattern (get_or left i 0) f q ≡ finishes pattern (drop i left) q
finishing_before pattern left i f l h q m =
    let d : drop i left ≡ get_or left i 0 ∷ drop (i + 1) left = rw add-one (drop-cons left i 0 l) in
    finish_step_agree pattern (get_or left i 0) f (finishes pattern (drop (i + 1) left)) h q m ∙ sym (ap (λ ms. finishes pattern ms q) d)

pub reached_behind : (pattern left : List ℕ) (i : ℕ) (f : ℕ → Bool) → Agree (length pattern) f (reaches pattern left i) → (q : ℕ) → q < length pattern
    → reach_step pattern (get_or left i 0) f q ≡ reaches pattern left (i + 1) q
reached_behind pattern left i f h q m =
    let e : suc i ≡ i + 1 = omega arith in
    reach_step_agree pattern (get_or left i 0) f (reaches pattern left i) h q m ∙ ap (λ n. reaches pattern left n q) e

-- after the last cell only the last state finishes
pub last_finishes : (pattern left : List ℕ) (row : List Bool) → 0 < length pattern → ((q : ℕ) → truth_at row q ≡ (q == length pattern - 1)) → (q : ℕ)
    → truth_at row q ≡ finishes pattern (drop (length left) left) q
last_finishes pattern left row h e q =
    e q ∙ (same_test q (length pattern) h ∙ sym (ap (λ ms. finishes pattern ms q) (drop-length left)))

pub last_stored : (pattern left : List ℕ) (table row : List Bool) (w : ℕ) → length pattern ≤ w → ((q : ℕ) → q < w → table_row table w (length left) q ≡ truth_at row q) → ((q : ℕ) → q < length pattern
    → truth_at row q ≡ finishes pattern (drop (length left) left) q) → (j q : ℕ) → length left ≤ j → j ≤ length left → q < length pattern → table_row table w j q ≡ finishes pattern (drop j left) q
last_stored pattern left table row w h stored is j q a b l =
    let e : length left ≡ j = omega arith in
    let P : ℕ → Type 0 = λ m. table_row table w m q ≡ finishes pattern (drop m left) q in
    subst P e (stored q (omega arith) ∙ is q l)

-- the row before cell i, from the row after it, which is the row before cell n
pub finishing_behind : (pattern left : List ℕ) (i n : ℕ) (f g : ℕ → Bool) → n ≡ i + 1 → i < length left → Agree (length pattern) f (finishes pattern (drop n left))
    → ((q : ℕ) → q < length pattern → g q ≡ finish_step pattern (get_or left i 0) f q) → (q : ℕ) → q < length pattern → g q ≡ finishes pattern (drop i left) q
finishing_behind pattern left i n f g e h a s q l =
    let P : ℕ → Type 0 = λ m. Agree (length pattern) f (finishes pattern (drop m left)) in
    s q l ∙ finishing_before pattern left i f h (subst P e a) q l

-- one more row stored
pub stored_more : (pattern left : List ℕ) (table new row : List Bool) (w v i n : ℕ) → n ≡ i + 1 → v ≡ w → length pattern ≤ w → ((q : ℕ) → q < w → table_row new w i q ≡ truth_at row q) → ((j q : ℕ)
    → j ≢ i → q < w → table_row new w j q ≡ table_row table w j q) → ((q : ℕ) → q < length pattern → truth_at row q ≡ finishes pattern (drop i left) q) → ((j q : ℕ) → n ≤ j → j ≤ length left
    → q < length pattern → table_row table v j q ≡ finishes pattern (drop j left) q) → (j q : ℕ) → i ≤ j → j ≤ length left → q < length pattern → table_row new w j q ≡ finishes pattern (drop j left) q
stored_more pattern left table new row w v i n e u l stored others is before j q a b c = elim (cases_eq j i) [
  | inl k ↦
      let P : ℕ → Type 0 = λ m. table_row new w m q ≡ finishes pattern (drop m left) q in
      subst P (sym k) (stored q (omega arith) ∙ is q c)
  | inr k ↦ others j q k (omega arith) ∙ (ap (λ m. table_row table m j q) (sym u) ∙ before j q (omega arith) b c)
]

-- one row of the table, as a slice of it
row_read : (table : List Bool) (w k i q : ℕ) → q < k → truth_at (take k (drop (i * w) table)) q ≡ table_row table w i q
row_read table w k i q h = get_or-take k (drop (i * w) table) q false h ∙ get_or-drop (i * w) table q false

pub later_row : (pattern left : List ℕ) (table : List Bool) (w v k i : ℕ) → v ≡ w → k ≡ w → length pattern ≤ v → i < length left → ((j q : ℕ) → j ≤ length left → q < length pattern
    → table_row table v j q ≡ finishes pattern (drop j left) q) → Agree (length pattern) (truth_at (take k (drop ((i + 1) * w) table))) (finishes pattern (drop (i + 1) left))
later_row pattern left table w v k i e u h l marked q m =
    row_read table w k (i + 1) q (omega arith) ∙ (ap (λ x. table_row table x (i + 1) q) (sym e) ∙ marked (i + 1) q (omega arith) m)

-- one more cell's colours written
pub written_more : (pattern left out : List ℕ) (i v : ℕ) (f t : ℕ → Bool) → i < length out → ((k : ℕ) → allows v k ≡ passes_below pattern (get_or left i 0) f t (length pattern) k)
    → Agree (length pattern) f (reaches pattern left i) → Agree (length pattern) t (finishes pattern (drop (i + 1) left))
    → ((j k : ℕ) → j < i → allows (get_or out j 0) k ≡ passes_below pattern (get_or left j 0) (reaches pattern left j) (finishes pattern (drop (j + 1) left)) (length pattern) k) → (j k : ℕ)
    → j < i + 1 → allows (get_or (set out i v) j 0) k ≡ passes_below pattern (get_or left j 0) (reaches pattern left j) (finishes pattern (drop (j + 1) left)) (length pattern) k
written_more pattern left out i v f t h is a b before j k l = elim (cases_eq j i) [
  | inl e ↦
      let P : ℕ → Type 0 = λ n. allows (get_or (set out i v) n 0) k ≡ passes_below pattern (get_or left n 0) (reaches pattern left n) (finishes pattern (drop (n + 1) left)) (length pattern) k in
      subst P (sym e) (ap (λ m. allows m k) (get_or-set_same out i v 0 h)
      ∙ (is k ∙ passes_below_agree pattern (get_or left i 0) f (reaches pattern left i) t (finishes pattern (drop (i + 1) left)) a b (length pattern) k (omega arith)))
  | inr d ↦ ap (λ m. allows m k) (get_or-set_other out i j v 0 d) ∙ before j k (omega arith)
]
