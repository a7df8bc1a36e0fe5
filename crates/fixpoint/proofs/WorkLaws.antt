-- How much was done while lines were evaluated.
use Rattle.std.proofs.Common.{◌≡◌, ℕ, zero, suc, ◌+◌, ◌^◌, ◌<◌, ◌≤◌, List, length, get_or, ◌/◌, ◌↔◌, refl, sym, ap, ◌∙◌, arith, add-one, inl, inr}
use Rattle.std.specs.Prelude.{count_ones}
use Rattle.std.specs.Int.{bit_at}
use Rattle.std.specs.Int.Count.{ones_step}
use Rattle.std.proofs.lemmas.Bool.{cases_eq}
use Rattle.std.proofs.lemmas.Nat.{ones_le_self}
use Rattle.std.proofs.lemmas.Nat.Bits.{bit_at-lt, bit_at-suc, bit_at-zero, bit_at_lowest, same_from_bits}
use Rattle.line_facts.specs.Masks.{Masks}
use Rattle.picture.specs.declared.line_id.Axis.{Axis}
use Rattle.picture.specs.declared.line_id.Axis.TheVariants.{Across, Down}
use Rattle.picture.specs.declared.line_id.LineId.{LineId}
use Rattle.picture.specs.LineSet.{Lines, HasName, PutsNames, TakesOutName, mask_along, name_count}
use Rattle.picture.specs.Rows.{line_of, HasLine}
use Rattle.clues.specs.ClueBook.{Clues, clue_at}
use Rattle.line_facts.specs.declared.line_engine.Outcome.{Outcome}
use Rattle.line_facts.specs.declared.line_engine.Outcome.TheVariants.{Narrowed, Dead}
use Rattle.line_facts.specs.declared.meter.Meter.{Meter}
use Rattle.line_facts.specs.Counts.{Counts, counted}
use Rattle.line_facts.specs.FactSets.{Gains}
use Rattle.fixpoint.specs.LeftToDo.{sum_to}
use Rattle.fixpoint.specs.ClosedFacts.{change, changes, PutsCrossing, Evaluates, Draws, Works}
use Rattle.line_facts.specs.CrossedLines.{CrossesChange}
use Rattle.picture.specs.CrossingLines.{crossing}
use Rattle.picture.proofs.BitLaws.{bit_is_set, same_bits, no_bit}
use Rattle.line_facts.proofs.FitLaws.{counting_adds}
use Rattle.picture.proofs.LineSetLaws.{put_all_counts}
use Rattle.fixpoint.proofs.LeftLaws.{change_some, changes_sum}
use Rattle.fixpoint.proofs.NameLaws.{take_counts}

-- ---- the lines put on the agenda

sum_first : (f : ℕ → ℕ) (n : ℕ) → sum_to f (suc n) ≡ f 0 + sum_to (λ i. f (suc i)) n
sum_first f zero = omega arith
sum_first f (suc n) = let r = sum_first f n in omega arith

-- a mask whose bit k is at most `f k`, and 0 from n on, has no more bits than the sum of `f` below n
ones_at_most : (n mask : ℕ) (f : ℕ → ℕ) → ((k : ℕ) → bit_at mask k ≤ f k) → ((k : ℕ) → n ≤ k → bit_at mask k ≡ 0) → count_ones mask ≤ sum_to f n
ones_at_most zero mask f low high =
    let none : mask ≡ 0 = same_from_bits mask 0 (λ k. high k (omega arith) ∙ sym (bit_at-zero k)) in
    let same = ap count_ones none in
    omega (arith, ones_le_self 0)
ones_at_most (suc n) mask f low high =
    let rest = ones_at_most n (mask / 2) (λ k. f (suc k)) (λ k. (let l = low (suc k) in omega (arith, bit_at-suc mask k))) (λ k l. (sym (bit_at-suc mask k) ∙ high (suc k) (omega arith))) in
    let one = low 0 in
    let all = sum_first f n in
    omega (arith, ones_step mask, bit_at_lowest mask, rest, one, all)

module _ (line : LineId) (before after : List ℕ) (changed : Lines) (is : (other : LineId) → HasName changed other ↔ CrossesChange line before after other) where
  allowed : ℕ → ℕ
  allowed k = change (get_or before k 0) (get_or after k 0)

  -- the names along the axis that crosses are no more than the cells that differ, and there are none along the other one
  bit_allowed : (axis : Axis) (k : ℕ) → bit_at (mask_along axis changed) k ≤ allowed k
  unfolding allowed
  bit_allowed axis k = elim (cases_eq (bit_at (mask_along axis changed) k) 1) [
    | inl e ↦
        let x = (is (record { axis = axis; at = k })).0 (bit_is_set (mask_along axis changed) k e) in
        let one = change_some (get_or before k 0) (get_or after k 0) x.differs in
        omega arith
    | inr d ↦ let l = bit_at-lt (mask_along axis changed) k in omega arith
  ]

  bit_past : (axis : Axis) (k : ℕ) → length before ≤ k → bit_at (mask_along axis changed) k ≡ 0
  bit_past axis k past = elim (cases_eq (bit_at (mask_along axis changed) k) 1) [
    | inl e ↦
        let x = (is (record { axis = axis; at = k })).0 (bit_is_set (mask_along axis changed) k e) in
        absurd (omega arith)
    | inr d ↦ let l = bit_at-lt (mask_along axis changed) k in omega arith
  ]

  none_along : (axis : Axis) → (crossing line.axis ≡ axis → ⊥) → count_ones (mask_along axis changed) ≡ 0
  none_along axis d =
      let none : mask_along axis changed ≡ 0 = same_bits (mask_along axis changed) 0 (λ k. (
        (λ s. let x = (is (record { axis = axis; at = k })).0 s in absurd (d (sym (ap (λ (l : LineId). l.axis) x.is_crossing)))),
        (λ s. absurd (no_bit k s)),
      )) in
      omega (arith, ap count_ones none, ones_le_self 0)

  few_along : (axis : Axis) → count_ones (mask_along axis changed) ≤ changes before after (length before)
  unfolding allowed
  few_along axis = omega (arith, ones_at_most (length before) (mask_along axis changed) allowed (bit_allowed axis) (bit_past axis), changes_sum before after (length before))

  few_by_axis : (axis : Axis) → crossing line.axis ≡ axis → name_count changed ≤ changes before after (length before)
  few_by_axis Across e = let none = none_along Down (λ x. let y : Across ≡ Down = sym e ∙ x in absurd cc) in let few = few_along Across in omega arith
  few_by_axis Down e = let none = none_along Across (λ x. let y : Down ≡ Across = sym e ∙ x in absurd cc) in let few = few_along Down in omega arith

  pub crossing_put : (old new : Lines) → PutsNames old new changed → PutsCrossing line before after old new
  crossing_put old new puts =
      let counts = put_all_counts old new changed puts in
      let few = few_by_axis (crossing line.axis) refl in
      record {
        names = λ other. (
          (λ s. elim ((puts other).0 s) [ inl o ↦ inl o | inr x ↦ inr ((is other).0 x) ]),
          (λ s. elim s [ inl o ↦ (puts other).1 (inl o) | inr x ↦ (puts other).1 (inr ((is other).1 x)) ]),
        );
        at_least = counts.0;
        at_most = omega (arith, counts.1, few);
      }

-- ---- the work so far

pub record Working (clues : Clues) (dirty : Lines) (base facts : Masks) (agenda : Lines) (old new : Meter) (before after : ℕ) : Type 0 where
  pub evaluations : ℕ
  pub cells : ℕ
  pub counts : Counts evaluations 0 old new before after
  pub draws : Draws clues base facts evaluations cells
  pub at_most : evaluations + name_count agenda ≤ name_count dirty + cells
  pub at_least : name_count dirty ≤ evaluations + name_count agenda

pub nothing_counted : (meter : Meter) (calls : ℕ) → meter.evaluations < 2 ^ 64 → meter.trials < 2 ^ 64 → calls < 2 ^ 64 → Counts 0 0 meter meter calls calls
nothing_counted meter calls e t c = record { evaluations = omega arith; trials = omega arith; calls = omega arith }

pub one_counted : (meter : Meter) (count before after : ℕ) → meter.trials < 2 ^ 64 → count ≡ counted meter.evaluations 1 → after ≡ counted before 1
    → Counts 1 0 meter (record { evaluations = count; trials = meter.trials }) before after
one_counted meter count before after t e c = record { evaluations = e; trials = omega arith; calls = c }

pub working_starts : (clues : Clues) (dirty agenda : Lines) (base : Masks) (meter : Meter) (calls : ℕ) → agenda ≡ dirty → meter.evaluations < 2 ^ 64 → meter.trials < 2 ^ 64 → calls < 2 ^ 64
    → Working clues dirty base base agenda meter meter calls calls
working_starts clues dirty agenda base meter calls same e t c =
    let n = ap name_count same in
    record {
      evaluations = 0;
      cells = 0;
      counts = nothing_counted meter calls e t c;
      draws = (refl, refl);
      at_most = omega arith;
      at_least = omega arith;
    }

module _ (clues : Clues) (dirty : Lines) (base old new : Masks) (agenda rest after : Lines) (line : LineId) (outcome : Outcome) (m0 m1 m2 : Meter) (c0 c1 c2 : ℕ)
    (w : Working clues dirty base old agenda m0 m1 c0 c1) (h : HasName agenda line) (t : TakesOutName agenda rest line) (has : HasLine old line) (g : Gains (clue_at clues line) line old new outcome)
    (p : PutsCrossing line (line_of old line) (line_of new line) rest after) (counts : Counts 1 0 m1 m2 c1 c2) where
  drawn : ℕ
  drawn = changes (line_of old line) (line_of new line) (length (line_of old line))

  both_counts : Counts (suc w.evaluations) 0 m0 m2 c0 c2
  both_counts = rw add-one at (counting_adds w.evaluations 0 1 0 m0 m1 m2 c0 c1 c2 w.counts counts)

  both_draw : Draws clues base new (suc w.evaluations) (w.cells + drawn)
  unfolding drawn
  both_draw =
      let last : Evaluates clues old new drawn = record { line = line; has = has; outcome = outcome; gains = g; draws = refl } in
      (old, (w.cells, (drawn, (w.draws, (last, refl)))))

  pub working_goes_on : Working clues dirty base new after m0 m2 c0 c2
  unfolding drawn
  working_goes_on =
      let c = take_counts agenda rest line h t in
      record {
        evaluations = suc w.evaluations;
        cells = w.cells + drawn;
        counts = both_counts;
        draws = both_draw;
        at_most = omega arith;
        at_least = omega arith;
      }

  pub working_dies : outcome ≡ Dead → Works clues dirty base new outcome m0 m2 c0 c2
  unfolding drawn
  working_dies dead =
      let c = take_counts agenda rest line h t in
      record {
        evaluations = suc w.evaluations;
        cells = w.cells + drawn;
        counts = both_counts;
        draws = both_draw;
        at_most = omega arith;
        at_least = λ e. (let x : Dead ≡ Narrowed = sym dead ∙ e in absurd cc);
        some = λ h. (omega arith);
      }
