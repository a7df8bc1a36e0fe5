-- A line written where it changes, and the lines that cross it there.
use Rattle.std.proofs.Common.{◌≡◌, ◌≢◌, ℕ, ◌<◌, ◌≤◌, ◌^◌, ◌==◌, ◌↔◌, true, false, not, List, refl, sym, ap, ◌∙◌, arith, inl, inr, length, take, get_or, eq-eqb, ne_eqb}
use Rattle.std.specs.Prelude.{IsBitSet}
use Rattle.std.specs.Int.{bit_at}
use Rattle.std.proofs.lemmas.Bool.{cases_lt, eqb-true, false≢true}
use Rattle.std.proofs.lemmas.Bool.Decides.{eqb_tells}
use Rattle.std.proofs.lemmas.List.{get_or-take, length-take-le}
use Rattle.line_facts.specs.Masks.{Masks}
use Rattle.picture.specs.declared.picture.TheConstants.{MAX_SIDE}
use Rattle.picture.specs.declared.line_id.Axis.{Axis}
use Rattle.picture.specs.declared.line_id.LineId.{LineId}
use Rattle.picture.specs.LineSet.{Lines, HasName}
use Rattle.picture.specs.Rows.{line_of}
use Rattle.picture.specs.CrossingLines.{crossing}
use Rattle.line_facts.specs.CrossedLines.{CrossesChange, differs}
use Rattle.line_facts.specs.FactSets.{HoldsLine}
use Rattle.line_facts.specs.BitSets.{has}
use Rattle.line_facts.proofs.GridLaws.{same_list, shape_refl}
use Rattle.line_facts.proofs.ApartLemmas.{none_from}
use Rattle.picture.proofs.BitLaws.{bit_is_set, set_bit}
use Rattle.line_facts.proofs.BitSetLaws.{has_none}

-- ---- the places at which two lists differ

apart_is : (before after : List ℕ) (i : ℕ) → get_or before i 0 ≢ get_or after i 0 → differs before after i ≡ true
apart_is before after i n = ap not (ne_eqb (get_or before i 0) (get_or after i 0) n)

apart_at : (before after : List ℕ) (i : ℕ) → differs before after i ≡ true → get_or before i 0 ≢ get_or after i 0
apart_at before after i e same = false≢true (sym (ap not (eq-eqb (get_or before i 0) (get_or after i 0) same)) ∙ e)

same_at : (before after : List ℕ) (i : ℕ) → differs before after i ≡ false → get_or before i 0 ≡ get_or after i 0
same_at before after i e = elim (eqb_tells (get_or before i 0) (get_or after i 0)) [
  | inl t ↦ t.1
  | inr f ↦ absurd (false≢true (sym e ∙ ap not f.0))
]

bit_has : (a i : ℕ) → IsBitSet a i → has a i ≡ true
unfolding has
bit_has a i h = ap (λ n. n == 1) (set_bit a i h)

has_bit : (a i : ℕ) → has a i ≡ true → IsBitSet a i
unfolding has
has_bit a i e = bit_is_set a i (eqb-true (bit_at a i) 1 e)

-- ---- a line that does not change

pub unchanged : (line : LineId) (old : Masks) (masks : List ℕ) → line_of old line ≡ masks → HoldsLine line old old masks
unchanged line old masks e = record { same_shape = shape_refl old; line_is = e; elsewhere = λ r c n. refl }

-- ---- the first cells of two lists, and the set of places at which the lists differ

module _ (before after : List ℕ) (places cells : ℕ) (same : (i : ℕ) → cells ≤ i → get_or before i 0 ≡ get_or after i 0) (are : (i : ℕ) → has places i ≡ differs before after i) where
  pub within_side : cells ≤ MAX_SIDE → places < 2 ^ MAX_SIDE
  within_side short = none_from MAX_SIDE places (λ i past. are i ∙ ap not (eq-eqb (get_or before i 0) (get_or after i 0) (same i (omega arith))))

  pub all_same : length after ≡ length before → places ≡ 0 → take cells before ≡ take cells after
  all_same len e = ap (take cells) (same_list before after (sym len) (λ j l. same_at before after j (sym (are j) ∙ (ap (λ p. has p j) e ∙ has_none j))))

  pub all_cross : (line : LineId) (axis : Axis) (names : Lines) → cells ≤ length before → axis ≡ crossing line.axis → ((other : LineId)
      → HasName names other ↔ ((other.axis ≡ axis) × IsBitSet places other.at)) → (other : LineId) → HasName names other ↔ CrossesChange line (take cells before) (take cells after) other
  all_cross line axis names room e named other = (
    (λ s.
        let x = (named other).0 s in
        let d = apart_at before after other.at (sym (are other.at) ∙ bit_has places other.at x.1) in
        let inside : other.at < cells = elim (cases_lt other.at cells) [ inl l ↦ l | inr past ↦ absurd (d (same other.at past)) ] in
        let across : other.axis ≡ crossing line.axis = x.0 ∙ e in
        record {
          is_crossing = λ i. record { axis = across i; at = other.at };
          within = (let n = length-take-le cells before room in omega arith);
          differs = λ z. d (sym (get_or-take cells before other.at 0 inside) ∙ (z ∙ get_or-take cells after other.at 0 inside));
        }),
    (λ x.
        let inside : other.at < cells = (let w = x.within in let n = length-take-le cells before room in omega arith) in
        (named other).1 (
          ap (λ (l : LineId). l.axis) x.is_crossing ∙ sym e,
          has_bit places other.at (are other.at ∙ apart_is before after other.at (λ z. x.differs (get_or-take cells before other.at 0 inside ∙ (z ∙ sym (get_or-take cells after other.at 0 inside))))),
        )),
  )
