-- The turns that follow each other, and those that pass by.
use Rattle.std.proofs.Common.{◌≡◌, ℕ, zero, suc, ◌+◌, ◌-◌, ◌<◌, ◌≤◌, length, refl, sym, ap, subst, ◌∙◌, arith, inl, inr, ◌⊎◌}
use Rattle.std.specs.Prelude.{Option, None, Some, MatchOption, IsBitSet}
use Rattle.std.proofs.lemmas.Bool.{cases_lt}
use Rattle.std.proofs.lemmas.Bool.Decides.{nat_tests}
use Rattle.line_facts.specs.Masks.{Masks}
use Rattle.picture.specs.declared.line_id.Axis.{Axis}
use Rattle.picture.specs.declared.line_id.Axis.TheVariants.{Across, Down}
use Rattle.picture.specs.declared.line_id.LineId.{LineId}
use Rattle.picture.specs.CrossingLines.{crossing}
use Rattle.picture.specs.LineSet.{Lines, HasName, IsClearFrom, mask_along, no_names}
use Rattle.picture.specs.Rows.{lines_along, width_of, HasLine}
use Rattle.line_facts.specs.FactSets.{IsFacts}
use Rattle.fixpoint.specs.LineNames.{AreLinesOf}
use Rattle.grade.specs.declared.turn.Turn.{Turn}
use Rattle.grade.specs.Runs.{next_turn, turn_of}
use Rattle.grade.specs.Walking.{IsFirstAlong, IsNextWaiting, Passes, turn_over}
use Rattle.fixpoint.proofs.NameLaws.{no_name_is_empty}

next_along : (facts : Masks) (round : ℕ) (axis : Axis) (at : ℕ) → at + 1 < lines_along axis facts → next_turn facts (turn_of round axis at) ≡ turn_of round axis (at + 1)
next_along facts round Across at l = grind (arith, nat_tests)
next_along facts round Down at l = grind (arith, nat_tests)

next_over : (facts : Masks) (round : ℕ) (axis : Axis) (at : ℕ) → lines_along axis facts ≤ at + 1 → next_turn facts (turn_of round axis at) ≡ turn_over round axis
next_over facts round Across at l = grind (arith, nat_tests)
next_over facts round Down at l = grind (arith, nat_tests)

over_there : (facts : Masks) (round : ℕ) (axis : Axis) → 0 < length facts → 0 < width_of facts → HasLine facts (turn_over round axis).line
over_there facts round Across rows columns = columns
over_there facts round Down rows columns = rows

over_has : (facts : Masks) (round : ℕ) (axis : Axis) → IsFacts facts → HasLine facts (turn_over round axis).line
over_has facts round axis is = over_there facts round axis is.has_row is.has_column

over_round : (round : ℕ) (axis : Axis) → (turn_over round axis).round ≤ round + 1
over_round round Across = omega arith
over_round round Down = omega arith

-- the turn after one is of a line too
pub next_there : (facts : Masks) (turn : Turn) → 0 < length facts → 0 < width_of facts → HasLine facts turn.line → HasLine facts (next_turn facts turn).line
next_there facts turn rows columns has =
    let P : Turn → Type 0 = λ t. HasLine facts t.line in
    elim (cases_lt (turn.line.at + 1) (lines_along turn.line.axis facts)) [
      | inl l ↦ subst P (sym (next_along facts turn.round turn.line.axis turn.line.at l)) l
      | inr l ↦ subst P (sym (next_over facts turn.round turn.line.axis turn.line.at l)) (over_there facts turn.round turn.line.axis rows columns)
    ]

pub next_has : (facts : Masks) (turn : Turn) → IsFacts facts → HasLine facts turn.line → HasLine facts (next_turn facts turn).line
next_has facts turn is has = next_there facts turn is.has_row is.has_column has

abbrev named : Axis → ℕ → LineId
named axis at = record { axis = axis; at = at }

module _ (facts : Masks) (due : Lines) (round : ℕ) (axis : Axis) where
  -- lines along an axis that do not wait pass by
  passes_along : (n at : ℕ) → at + n < lines_along axis facts → ((b : ℕ) → at ≤ b → b < at + n → ¬ IsBitSet (mask_along axis due) b)
      → Passes facts due n (turn_of round axis at) (turn_of round axis (at + n))
  passes_along zero at l none = ap (turn_of round axis) (omega arith)
  passes_along (suc n) at l none =
      let rest = passes_along n (at + 1) (omega arith) (λ b from below. none b (omega arith) (omega arith)) in
      let P : Turn → Type 0 = λ t. Passes facts due n t (turn_of round axis (at + suc n)) in
      let Q : ℕ → Type 0 = λ k. Passes facts due n (turn_of round axis (at + 1)) (turn_of round axis k) in
      let same : at + 1 + n ≡ at + suc n = omega arith in
      (none at (omega arith) (omega arith), subst P (sym (next_along facts round axis at (omega arith))) (subst Q same rest))

  -- the rest of the lines along an axis pass by
  passes_over : (n at : ℕ) → at + suc n ≡ lines_along axis facts → IsClearFrom (mask_along axis due) at
      → Passes facts due (suc n) (turn_of round axis at) (turn_over round axis)
  passes_over zero at l clear = (clear at (omega arith), sym (next_over facts round axis at (omega arith)))
  passes_over (suc n) at l clear =
      let P : Turn → Type 0 = λ t. Passes facts due (suc n) t (turn_over round axis) in
      (clear at (omega arith), subst P (sym (next_along facts round axis at (omega arith))) (passes_over n (at + 1) (omega arith) (λ b from. clear b (omega arith))))

pub passes_add : (facts : Masks) (due : Lines) (n m : ℕ) (one two three : Turn) → Passes facts due n one two → Passes facts due m two three → Passes facts due (n + m) one three
passes_add facts due zero m one two three p q =
    let P : Turn → Type 0 = λ t. Passes facts due m t three in
    let Q : ℕ → Type 0 = λ k. Passes facts due k one three in
    let e : m ≡ 0 + m = omega arith in
    subst Q e (subst P p q)
passes_add facts due (suc n) m one two three p q =
    let Q : ℕ → Type 0 = λ k. Passes facts due k one three in
    let e : suc (n + m) ≡ suc n + m = omega arith in
    subst Q e (p.0, passes_add facts due n m (next_turn facts one) two three p.1 q)

-- the rest of the lines along an axis pass by, from one turn to the first along the other axis
over : (facts : Masks) (due : Lines) (turn : Turn) → HasLine facts turn.line → IsClearFrom (mask_along turn.line.axis due) turn.line.at
    → (n : ℕ) × Passes facts due n turn (turn_over turn.round turn.line.axis)
over facts due turn has clear =
    let left = lines_along turn.line.axis facts - turn.line.at - 1 in
    (suc left, passes_over facts due turn.round turn.line.axis left turn.line.at (omega arith) clear)

-- the first line that waits, found after some turns that pass by
found : (facts : Masks) (due : Lines) (from mid to : Turn) (n : ℕ) → AreLinesOf facts due → HasLine facts mid.line → mid.round ≤ from.round + 1 → Passes facts due n from mid → IsFirstAlong due mid to
    → IsNextWaiting facts due from to
found facts due from mid to n of has round p f =
    let axis = mid.line.axis in
    let there : HasName due (named axis to.line.at) = f.first.is_set in
    let inside : to.line.at < lines_along axis facts = of (named axis to.line.at) there in
    let more = to.line.at - mid.line.at in
    let reaches : mid.line.at + more ≡ to.line.at = (let o = f.first.onward in omega arith) in
    let along = passes_along facts due mid.round axis more mid.line.at (omega arith) (λ b at_least below. f.first.first b at_least (omega arith)) in
    let same : turn_of mid.round axis (mid.line.at + more) ≡ to = λ i. record { round = sym f.round i; line = record { axis = sym f.axis i; at = reaches i } } in
    let P : Turn → Type 0 = λ t. Passes facts due more mid t in
    record {
      waits = (let Q : Axis → Type 0 = λ a. IsBitSet (mask_along a due) to.line.at in subst Q (sym f.axis) there);
      turns = n + more;
      passes = passes_add facts due n more from mid to p (subst P same along);
      round = (let r = f.round in omega arith);
    }

cases_axis : (a b : Axis) → (b ≡ a) ⊎ (b ≡ crossing a)
cases_axis Across Across = inl refl
cases_axis Across Down = inr refl
cases_axis Down Across = inr refl
cases_axis Down Down = inl refl

crossing_twice : (axis : Axis) → crossing (crossing axis) ≡ axis
crossing_twice Across = refl
crossing_twice Down = refl

over_axis : (round : ℕ) (axis : Axis) → (turn_over round axis).line.axis ≡ crossing axis
over_axis round Across = refl
over_axis round Down = refl

over_at : (round : ℕ) (axis : Axis) → (turn_over round axis).line.at ≡ 0
over_at round Across = refl
over_at round Down = refl

module _ (facts : Masks) (due : Lines) (from : Turn) (is : IsFacts facts) (of : AreLinesOf facts due) (has : HasLine facts from.line) where
  pub found_first : (to : Turn) → IsFirstAlong due from to → IsNextWaiting facts due from to
  found_first to f = found facts due from from to 0 of has (omega arith) refl f

  pub found_second : (mid to : Turn) → mid ≡ turn_over from.round from.line.axis → IsClearFrom (mask_along from.line.axis due) from.line.at → IsFirstAlong due mid to → IsNextWaiting facts due from to
  found_second mid to e clear f =
      let P : Turn → Type 0 = λ t. IsFirstAlong due t to in
      let o = over facts due from has clear in
      let first = turn_over from.round from.line.axis in
      found facts due from first to o.0 of (over_has facts from.round from.line.axis is) (over_round from.round from.line.axis) o.1 (subst P e f)

  over_twice : (round : ℕ) (axis : Axis) → (turn_over (turn_over round axis).round (turn_over round axis).line.axis).round ≡ round + 1
  over_twice round Across = refl
  over_twice round Down = refl

  pub found_third : (mid last : Turn) (r : Option Turn) → mid ≡ turn_over from.round from.line.axis → last ≡ turn_over mid.round mid.line.axis
      → IsClearFrom (mask_along from.line.axis due) from.line.at
      → IsClearFrom (mask_along mid.line.axis due) mid.line.at → MatchOption r (IsClearFrom (mask_along last.line.axis due) last.line.at) (IsFirstAlong due last)
      → MatchOption r (due ≡ no_names) (IsNextWaiting facts due from)
  found_third mid last None e f clear other m = no_name_is_empty due (λ line h. by line (cases_axis from.line.axis line.axis) h)
    where
      mid_axis : mid.line.axis ≡ crossing from.line.axis
      mid_axis = ap (λ (t : Turn). t.line.axis) e ∙ over_axis from.round from.line.axis

      last_axis : last.line.axis ≡ from.line.axis
      last_axis = ap (λ (t : Turn). t.line.axis) f ∙ (over_axis mid.round mid.line.axis ∙ (ap crossing mid_axis ∙ crossing_twice from.line.axis))

      mid_at : mid.line.at ≡ 0
      mid_at = ap (λ (t : Turn). t.line.at) e ∙ over_at from.round from.line.axis

      last_at : last.line.at ≡ 0
      last_at = ap (λ (t : Turn). t.line.at) f ∙ over_at mid.round mid.line.axis

      by : (line : LineId) → (line.axis ≡ from.line.axis) ⊎ (line.axis ≡ crossing from.line.axis) → HasName due line → ⊥
      by line (inl same) h =
          let P : Axis → Type 0 = λ a. IsBitSet (mask_along a due) line.at in
          m line.at (let z = last_at in omega arith) (subst P (same ∙ sym last_axis) h)
      by line (inr crosses) h =
          let P : Axis → Type 0 = λ a. IsBitSet (mask_along a due) line.at in
          other line.at (let z = mid_at in omega arith) (subst P (crosses ∙ sym mid_axis) h)
  found_third mid last (Some to) e f clear other m =
      let one = over facts due from has clear in
      let to_mid : Passes facts due one.0 from mid = let P : Turn → Type 0 = λ t. Passes facts due one.0 from t in subst P (sym e) one.1 in
      let mid_has : HasLine facts mid.line = let P : Turn → Type 0 = λ t. HasLine facts t.line in subst P (sym e) (over_has facts from.round from.line.axis is) in
      let two = over facts due mid mid_has other in
      let to_last : Passes facts due two.0 mid last = let P : Turn → Type 0 = λ t. Passes facts due two.0 mid t in subst P (sym f) two.1 in
      let last_has : HasLine facts last.line = let P : Turn → Type 0 = λ t. HasLine facts t.line in subst P (sym f) (over_has facts mid.round mid.line.axis is) in
      let round : (turn_over mid.round mid.line.axis).round ≡ from.round + 1 =
      let P : Turn → Type 0 = λ t. (turn_over t.round t.line.axis).round ≡ from.round + 1 in subst P (sym e) (over_twice from.round from.line.axis) in
      let last_round = ap (λ (t : Turn). t.round) f in
      found facts due from last to (one.0 + two.0) of last_has (omega arith) (passes_add facts due one.0 two.0 from mid last to_mid to_last) m
