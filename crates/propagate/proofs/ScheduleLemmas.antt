-- Lines forced in the order of a schedule.
use Rattle.std.proofs.Common.{◌≡◌, ℕ, List, [], ◌∷◌, refl, sym, subst, ◌∙◌, inl, inr}
use Rattle.std.specs.List.{All}
use Rattle.std.proofs.lemmas.List.Elements.{All-head, All-tail}
use Rattle.line_facts.specs.Masks.{Masks}
use Rattle.picture.specs.declared.line_id.LineId.{LineId}
use Rattle.picture.specs.Rows.{line_of, HasLine}
use Rattle.clues.specs.ClueBook.{Clues, clue_at}
use Rattle.line_facts.specs.declared.line_engine.Outcome.TheVariants.{Narrowed}
use Rattle.line_facts.specs.Fits.{CanFit}
use Rattle.line_facts.specs.FactSets.{Gains, IsClosed, IsLeast, IsWithin, SameShape}
use Rattle.fixpoint.specs.ClosedFacts.{HasDeadLine}
use Rattle.propagate.specs.Laws.{SchedulesLeadInside}
use Rattle.propagate.specs.Schedule.{AreAfter, IsDeadInTurn}
use Rattle.line_facts.proofs.GridLaws.{same_has_line, shape_sym}
use Rattle.line_facts.proofs.ForceLaws.{gains_grows, gains_inside, gains_closes}
use Rattle.line_facts.proofs.FitLaws.{tighter_fits, within_both, within_tighter}
use Rattle.fixpoint.proofs.ClosingLaws.{within_refl, within_trans}

-- what a line forces is unique
one_gain : (clues : Clues) (line : LineId) (base facts others : Masks) → Gains (clue_at clues line) line base facts Narrowed → Gains (clue_at clues line) line base others Narrowed → facts ≡ others
one_gain clues line base facts others g h =
    within_both facts others (gains_inside (clue_at clues line) line base facts Narrowed g others (gains_grows (clue_at clues line) line base others Narrowed h)
    (gains_closes (clue_at clues line) line base others Narrowed h))
    (gains_inside (clue_at clues line) line base others Narrowed h facts (gains_grows (clue_at clues line) line base facts Narrowed g) (gains_closes (clue_at clues line) line base facts Narrowed g))

one_after : (clues : Clues) (base : Masks) (lines : List LineId) (facts others : Masks) → AreAfter clues base lines facts → AreAfter clues base lines others → facts ≡ others
one_after clues base [] facts others a b = a ∙ sym b
one_after clues base (line ∷ lines) facts others a b =
    one_after clues b.0 lines facts others (subst (λ (f : List (List ℕ)). AreAfter clues f lines facts) (one_gain clues line base a.0 b.0 a.1.0 b.1.0) a.1.1) b.1.1

after_holds : (clues : Clues) (base : Masks) (lines : List LineId) (facts : Masks) → AreAfter clues base lines facts → IsWithin base facts
after_holds clues base [] facts a = let P : List (List ℕ) → Type 0 = λ f. IsWithin base f in subst P (sym a) (within_refl base)
after_holds clues base (line ∷ lines) facts a =
    within_trans base a.0 facts (gains_grows (clue_at clues line) line base a.0 Narrowed a.1.0) (after_holds clues a.0 lines facts a.1.1)

-- the lines of a schedule are lines of all facts of one shape
still_lines : (old new : Masks) (lines : List LineId) → SameShape old new → All (HasLine old) lines → All (HasLine new) lines
still_lines old new lines shape all k d l = same_has_line old new _ shape (all k d l)

-- closed facts that hold the base hold what a line of it forces
first_inside : (clues : Clues) (line : LineId) (base between others : Masks) → HasLine base line → Gains (clue_at clues line) line base between Narrowed → IsClosed clues others → IsWithin base others
    → IsWithin between others
first_inside clues line base between others has g closed w = gains_inside (clue_at clues line) line base between Narrowed g others w (closed line (same_has_line base others line w.same_shape has))

after_inside : (clues : Clues) (base : Masks) (lines : List LineId) (facts : Masks) → All (HasLine base) lines → AreAfter clues base lines facts → (others : Masks) → IsClosed clues others
    → IsWithin base others → IsWithin facts others
after_inside clues base [] facts all a others closed w = let P : List (List ℕ) → Type 0 = λ f. IsWithin f others in subst P (sym a) w
after_inside clues base (line ∷ lines) facts all a others closed w =
    let g = a.1.0 in
    after_inside clues a.0 lines facts (still_lines base a.0 lines g.same_shape (All-tail (HasLine base) line lines all)) a.1.1 others closed
    (first_inside clues line base a.0 others (All-head (HasLine base) line lines all) g closed w)

after_least : (clues : Clues) (base : Masks) (lines : List LineId) (facts : Masks) → All (HasLine base) lines → AreAfter clues base lines facts → IsClosed clues facts → IsLeast clues base facts
after_least clues base lines facts all a closed = record { closed = closed; holds = after_holds clues base lines facts a; least = after_inside clues base lines facts all a }

-- a line that no list fits has none under facts that exclude more
dead_here : (clues : Clues) (line : LineId) (base : Masks) → HasLine base line → ¬ CanFit (clue_at clues line) (line_of base line) → HasDeadLine clues base
dead_here clues line base has dead = record {
  line = line;
  has = has;
  dead = λ others closed w f. dead (f.0, tighter_fits (clue_at clues line) (line_of base line) (line_of others line) f.0 (within_tighter base others w line) f.1);
}

dead_in_turn : (clues : Clues) (base : Masks) (lines : List LineId) → All (HasLine base) lines → IsDeadInTurn clues base lines → HasDeadLine clues base
dead_in_turn clues base [] all d = absurd d
dead_in_turn clues base (line ∷ lines) all d =
    let has = All-head (HasLine base) line lines all in
    elim d [
      | inl none ↦ dead_here clues line base has none
      | inr later ↦
          let g = later.1.0 in
          let found = dead_in_turn clues later.0 lines (still_lines base later.0 lines g.same_shape (All-tail (HasLine base) line lines all)) later.1.1 in
          record {
            line = found.line;
            has = same_has_line later.0 base found.line (shape_sym g.same_shape) found.has;
            dead = λ others closed w. found.dead others closed (first_inside clues line base later.0 others has g closed w);
          }
    ]

not_both : (clues : Clues) (base : Masks) (lines : List LineId) (facts : Masks) → AreAfter clues base lines facts → IsDeadInTurn clues base lines → ⊥
not_both clues base [] facts a d = d
not_both clues base (line ∷ lines) facts a d = elim d [
  | inl none ↦ let g = a.1.0 in let n = g.narrows in none (n.fits.0 refl)
  | inr later ↦
      not_both clues a.0 lines facts a.1.1 (subst (λ (f : List (List ℕ)). IsDeadInTurn clues f lines) (one_gain clues line base later.0 a.0 later.1.0 a.1.0) later.1.1)
]

pub schedules_lead_inside : SchedulesLeadInside
schedules_lead_inside = record { one = one_after; holds = after_holds; inside = after_inside; least = after_least; dead = dead_in_turn; not_both = not_both }
