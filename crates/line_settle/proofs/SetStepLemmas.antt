-- Sets of cells by colour, as the program makes them and writes them out.
use Rattle.std.proofs.Common.{◌≡◌, ℕ, ◌+◌, ◌*◌, ◌%◌, ◌^◌, ◌<◌, Bool, true, false, List, ◌==◌, ◌&&◌, ◌||◌, nat_lt, bit_or, refl, sym, ap, subst, ◌∙◌, arith, inl, inr, eq-eqb, ne_eqb, eqb-true, length}
use Rattle.std.proofs.Common.{get_or}
use Rattle.std.proofs.lemmas.Bool.Decides.{nat_tests}
use Rattle.std.proofs.Math.Bool.{and-false, and-true, or-false}
use Rattle.std.proofs.Math.ListN.{set}
use Rattle.std.proofs.lemmas.Bool.{cases_eq, cases_lt, le-ltb, or_cases, or_left, or_right, false≢true}
use Rattle.std.proofs.lemmas.List.{get_or_past, get_or-set_same, get_or-set_other}
use Rattle.line_settle.specs.Patterns.{allows}
use Rattle.line_facts.specs.BitSets.{has}
use Rattle.line_settle.specs.Positions.{IsCellsWith, HasMade}
use Rattle.line_settle.proofs.BitLemmas.{allows_none, allows_or, allows_shifted}
use Rattle.line_facts.proofs.BitSetLaws.{has_or, has_none}

-- ---- the sets of cells by colour

pub none_made : (left allowed : List ℕ) → HasMade left 0 allowed
none_made left allowed k e = absurd (false≢true (sym (allows_none k) ∙ e))

pub made_more : (left allowed : List ℕ) (made colour v : ℕ) → colour < 16 → length allowed ≡ 16 → IsCellsWith left colour v → HasMade left made allowed
    → HasMade left (bit_or made (1 * 2 ^ colour % 65536)) (set allowed colour v)
made_more left allowed made colour v h n is before k e i l = elim (cases_eq k colour) [
  | inl same ↦
      let P : ℕ → Type 0 = λ c. has (get_or (set allowed colour v) c 0) i ≡ allows (get_or left i 0) c in
      subst P (sym same) (ap (λ s. has s i) (get_or-set_same allowed colour v 0 (omega arith)) ∙ is i l)
  | inr other ↦
      elim (or_cases _ _ (sym (allows_or made (1 * 2 ^ colour % 65536) k) ∙ e)) [
        | inl a ↦ ap (λ s. has s i) (get_or-set_other allowed colour k v 0 other) ∙ before k a i l
        | inr b ↦ absurd (other (sym (eqb-true _ _ (sym (allows_shifted colour k h) ∙ b))))
      ]
]

pub made_here : (made colour : ℕ) → colour < 16 → allows (bit_or made (1 * 2 ^ colour % 65536)) colour ≡ true
made_here made colour h = allows_or made (1 * 2 ^ colour % 65536) colour ∙ or_right _ _ (allows_shifted colour colour h ∙ eq-eqb colour colour refl)

pub made_kept : (made colour k : ℕ) → allows made k ≡ true → allows (bit_or made (1 * 2 ^ colour % 65536)) k ≡ true
made_kept made colour k e = allows_or made (1 * 2 ^ colour % 65536) k ∙ or_left _ _ e

pub ruleset making = (none_made, made_more, made_here, made_kept)

-- ---- cells that are seen

pub seen_at : (seen : List ℕ) (colour n places i k : ℕ) → n ≡ colour → colour < length seen
    → has (get_or (set seen n (bit_or (get_or seen n 0) places)) k 0) i ≡ (has (get_or seen k 0) i || (has places i && colour == k))
seen_at seen colour n places i k e h = elim (cases_eq k colour) [
  | inl same ↦ rw (e, same, get_or-set_same seen colour _ 0 h, has_or, eq-eqb colour colour refl, and-true) refl
  | inr other ↦ rw (e, get_or-set_other seen colour k _ 0 other, ne_eqb colour k (λ f. other (sym f)), and-false, or-false) refl
]

-- one colour more is written, or none where its set is empty
pub written_more : (sets : List ℕ) (k places i j : ℕ) (y : Bool) → places ≡ get_or sets k 0
    → (((nat_lt j k && has (get_or sets j 0) i) || y) || (has places i && k == j)) ≡ ((nat_lt j (k + 1) && has (get_or sets j 0) i) || y)
written_more sets k places i j y e = grind (arith, nat_tests)

pub written_none : (sets : List ℕ) (k places i j : ℕ) (y : Bool) → places ≡ get_or sets k 0 → places ≡ 0
    → ((nat_lt j k && has (get_or sets j 0) i) || y) ≡ ((nat_lt j (k + 1) && has (get_or sets j 0) i) || y)
written_none sets k places i j y e none =
    let nothing : has (get_or sets k 0) i ≡ false = rw (← e, none) (has_none i) in
    grind (arith, nat_tests)

-- what lies after the last colour was never seen
pub all_written : (sets : List ℕ) (last i k : ℕ) → last + 1 ≡ length sets → ((nat_lt k last && has (get_or sets k 0) i) || (has (get_or sets last 0) i && last == k)) ≡ has (get_or sets k 0) i
all_written sets last i k l = elim (cases_lt k (length sets)) [
  | inl b ↦ grind (arith, nat_tests)
  | inr b ↦
      let nothing : has (get_or sets k 0) i ≡ false = rw (get_or_past sets k 0 b) (has_none i) in
      rw nothing (rw (le-ltb k last (omega arith), ne_eqb last k (λ e. absurd (omega arith)), and-false) refl)
]
