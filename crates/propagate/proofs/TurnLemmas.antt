-- What a line's turn gives.
use Rattle.std.proofs.Common.{Err, Option, Result, ◌≡◌, ◌≢◌, ℕ, zero, suc, ◌+◌, ◌<◌, ◌≤◌, ◌⊎◌, ◌↔◌, List, [], ◌∷◌, length, refl, sym, ap, subst, ◌∙◌, arith, inl, inr, get_or}
use Rattle.std.specs.Prelude.{IsBitSet}
use Rattle.std.proofs.lemmas.Bool.{cases_eq}
use Rattle.std.proofs.lemmas.List.{append-nil}
use Rattle.line_facts.specs.Masks.{Masks}
use Rattle.picture.specs.declared.line_id.LineId.{LineId}
use Rattle.picture.specs.LineSet.{Lines, HasName, PutsName, name_count}
use Rattle.picture.specs.Rows.{line_of, HasLine}
use Rattle.clues.specs.declared.block.Block.{Block}
use Rattle.clues.specs.ClueBook.{Clues, clue_at}
use Rattle.line_facts.specs.declared.line_engine.Outcome.TheVariants.{Narrowed, Dead}
use Rattle.line_facts.specs.CrossedLines.{CrossesChange}
use Rattle.line_facts.specs.Fits.{CanFit}
use Rattle.picture.specs.CrossingLines.{crossing_at}
use Rattle.line_facts.specs.FactSets.{Gains, Leaves, row_on, col_on}
use Rattle.justify.specs.declared.fault.StepFault.{StepFault}
use Rattle.justify.specs.declared.fault.StepFault.TheVariants as step_fault
use Rattle.justify.specs.declared.premise.Premise.{Premise}
use Rattle.justify.specs.declared.step.Step.{Step}
use Rattle.justify.specs.Premises.{premise_at, ArePremises, Mentions, Says}
use Rattle.justify.specs.Steps.{step_at, IsTrimmed}
use Rattle.justify.specs.Book.{Account, Adds, GainDrawn, IsAccount, IsDerivation}
use Rattle.justify.specs.NewSteps.{DrawsNothing, IsNewStep, Makes}
use Rattle.propagate.specs.Turns.{CrossesDrawn, GivesNext, Turn}
use Rattle.line_facts.proofs.GridLaws.{shape_refl, cell_on}
use Rattle.line_facts.proofs.FitLaws.{have_left}
use Rattle.picture.proofs.BitLaws.{same_bits}
use Rattle.justify.proofs.LawLemmas.{derivations_grow, new_derive, new_follow}
use Rattle.justify.proofs.LineMaskLemmas.{some_bit}
use Rattle.justify.proofs.PlaceLemmas.{one_along}
use Rattle.justify.proofs.SaidLemmas.{mentions_or_not}

-- ---- the lines that cross a step where it draws

-- a line that crosses at the place of one of the first n premises
pub record CrossesOne (line : LineId) (premises : List Premise) (n : ℕ) (other : LineId) : Type 0 where
  pub which : ℕ
  pub below : which < n
  pub here : other ≡ crossing_at line (premise_at premises which).at

pub record CrossesSoFar (line : LineId) (premises : List Premise) (n : ℕ) (lines : Lines) : Type 0 where
  pub names : (other : LineId) → HasName lines other ↔ CrossesOne line premises n other
  pub few : name_count lines ≤ n

pub crosses_more : (line : LineId) (premises : List Premise) (n : ℕ) (old new : Lines) (name : LineId) → name ≡ crossing_at line (premise_at premises n).at
    → HasName old name ⊎ (¬ HasName old name) → (HasName old name → new ≡ old) → (¬ HasName old name → name_count new ≡ name_count old + 1)
    → PutsName old new name → CrossesSoFar line premises n old → CrossesSoFar line premises (n + 1) new
crosses_more line premises n old new name is known same more puts c = record {
  names = λ other. (
    (λ s. elim ((puts other).0 s) [
      | inl o ↦ let x = (c.names other).0 o in record { which = x.which; below = (let b = x.below in omega arith); here = x.here }
      | inr e ↦ record { which = n; below = omega arith; here = e ∙ is }
    ]),
    (λ x. elim (cases_eq x.which n) [
      | inl e ↦ (puts other).1 (inr (x.here ∙ (ap (λ m. crossing_at line (premise_at premises m).at) e ∙ sym is)))
      | inr d ↦ (puts other).1 (inl ((c.names other).1 (record { which = x.which; below = (let b = x.below in omega arith); here = x.here })))
    ]),
  );
  few = (let f = c.few in elim known [
    | inl h ↦ let e = ap name_count (same h) in omega arith
    | inr d ↦ let e = more d in omega arith
  ]);
}

pub crosses_all : (step : Step) (items : List Premise) (n : ℕ) (lines : Lines) → items ≡ step.drawn → length items ≡ n → CrossesSoFar step.line items n lines → (other : LineId)
    → HasName lines other ↔ CrossesDrawn step other
crosses_all step items n lines same count is other =
    let len = subst (λ (ps : List Premise). length ps ≡ n) same count in
    let c = subst (λ (ps : List Premise). CrossesSoFar step.line ps n lines) same is in (
      (λ s.
          let x = (c.names other).0 s in
          let at : other.at ≡ (premise_at step.drawn x.which).at = ap (λ (l : LineId). l.at) x.here in
          record {
            is_crossing = x.here ∙ ap (crossing_at step.line) (sym at);
            drawn = record { which = x.which; within = (let b = x.below in omega arith); here = sym at };
          }),
      (λ d.
          let m = d.drawn in
          (c.names other).1 (record { which = m.which; below = (let w = m.within in omega arith); here = d.is_crossing ∙ ap (crossing_at step.line) (sym m.here) })),
    )

-- ---- where a new step draws, the facts change

module _ (clue : List Block) (step : Step) (old new : Masks) (n : IsNewStep clue step.line (line_of old step.line) step) (g : GainDrawn step old new) where
  line_bit : (facts : Masks) (i k : ℕ) → IsBitSet (get_or (line_of facts step.line) i 0) k → Leaves facts (row_on step.line.axis step.line.at i) (col_on step.line.axis step.line.at i) k
  line_bit facts i k s = let P : ℕ → Type 0 = λ m. IsBitSet m k in subst P (cell_on facts step.line i) s

  cell_bit : (facts : Masks) (i k : ℕ) → Leaves facts (row_on step.line.axis step.line.at i) (col_on step.line.axis step.line.at i) k → IsBitSet (get_or (line_of facts step.line) i 0) k
  cell_bit facts i k s = let P : ℕ → Type 0 = λ m. IsBitSet m k in subst P (sym (cell_on facts step.line i)) s

  mentioned_differs : ArePremises step.drawn → (i : ℕ) → Mentions step.drawn i → get_or (line_of old step.line) i 0 ≢ get_or (line_of new step.line) i 0
  mentioned_differs are i m same =
      let bit = some_bit (premise_at step.drawn m.which).colours (are.some m.which m.within) (are.small m.which) in
      let says : Says step.drawn i bit.0 = record { which = m.which; within = m.within; here = m.here; colour = bit.1 } in
      let stays = subst (λ (mask : ℕ). IsBitSet mask bit.0) same (n.draws i bit.0 says).0 in
      ((g.leaves _ _ bit.0).0 (line_bit new i bit.0 stays)).1 (record { place = i; in_row = refl; in_column = refl; says = says })

  unmentioned_stays : (i : ℕ) → (Mentions step.drawn i → ⊥) → get_or (line_of old step.line) i 0 ≡ get_or (line_of new step.line) i 0
  unmentioned_stays i none = same_bits _ _ (λ k. (
    (λ s. cell_bit new i k ((g.leaves _ _ k).1 (
      line_bit old i k s,
      λ d.
          let same = one_along step.line _ _ i d.place refl refl d.in_row d.in_column in
          let says = d.says in
          none (record { which = says.which; within = says.within; here = says.here ∙ sym same }),
    ))),
    (λ s. cell_bit old i k ((g.leaves _ _ k).0 (line_bit new i k s)).0),
  ))

  pub drawn_is_changed : ArePremises step.drawn → (other : LineId) → CrossesDrawn step other ↔ CrossesChange step.line (line_of old step.line) (line_of new step.line) other
  drawn_is_changed are other = (
    (λ d. record { is_crossing = d.is_crossing; within = n.drawn_inside other.at d.drawn; differs = mentioned_differs are other.at d.drawn }),
    (λ x. record { is_crossing = x.is_crossing; drawn = elim (mentions_or_not step.drawn other.at) [ inl m ↦ m | inr none ↦ absurd (x.differs (unmentioned_stays other.at none)) ] }),
  )

-- ---- a turn

-- a line that draws nothing gains nothing
gains_nothing : (clue : List Block) (line : LineId) (facts : Masks) → DrawsNothing clue (line_of facts line) → Gains clue line facts facts Narrowed
gains_nothing clue line facts d = record {
  same_shape = shape_refl facts;
  narrows = record {
    same_length = refl;
    fits = ((λ _. d.fits), (λ _. refl));
    exact = λ i k. (d.closed i k, λ h. have_left h);
    empty = λ e. (let x : Narrowed ≡ Dead = e in absurd cc);
  };
  elsewhere = λ row col off. refl;
}

pub turn_for_nothing : (clues : Clues) (line : LineId) (book : Account) (lines : Lines) → IsDerivation clues book → DrawsNothing (clue_at clues line) (line_of book.facts line)
    → ((other : LineId) → ¬ HasName lines other) → name_count lines ≡ 0 → Turn clues line book book lines
turn_for_nothing clues line book lines d draws none count = record {
  added = [];
  grows = record { base = refl; steps = sym (append-nil book.steps); derivation = d; trimmed = λ n l. absurd (omega arith) };
  one = omega arith;
  gains = gains_nothing (clue_at clues line) line book.facts draws;
  names = λ other. ((λ s. absurd (none other s)), (λ x. absurd (x.differs refl)));
  few = omega arith;
}

trimmed_one : (R : Step → Type 0) (step : Step) → R step → (n : ℕ) → n < length (step ∷ []) → R (step_at (step ∷ []) n)
trimmed_one R step r zero l = r
trimmed_one R step r (suc n) l = absurd (omega arith)

pub turn_for_step : (clues : Clues) (line : LineId) (old new : Account) (step : Step) (lines : Lines) → IsAccount old → IsDerivation clues old → HasLine old.facts line
    → IsNewStep (clue_at clues line) line (line_of old.facts line) step → Adds old step new → ArePremises step.drawn
    → ((other : LineId) → HasName lines other ↔ CrossesDrawn step other) → name_count lines ≤ length step.drawn → Turn clues line old new lines
turn_for_step clues line old new step lines is d has n a are names few = record {
  added = step ∷ [];
  grows = record {
    base = a.base;
    steps = a.steps;
    derivation = derivations_grow.derives clues old new step is a (new_derive.forced clues old line step is n) d;
    trimmed = trimmed_one (λ s. IsTrimmed (clue_at clues s.line) (length (line_of old.base s.line)) s) step (new_derive.trimmed clues old line step is n);
  };
  one = omega arith;
  gains = new_follow.gains old new (clue_at clues line) line step a has n;
  names =
      let P : LineId → Type 0 =
      λ l. IsNewStep (clue_at clues line) l (line_of old.facts l) step → (other : LineId) → CrossesDrawn step other ↔ CrossesChange l (line_of old.facts l) (line_of new.facts l) other in
      let changed = subst P n.of_line (λ m. drawn_is_changed (clue_at clues line) step old.facts new.facts m a.facts are) n in
      λ other. ((λ s. (changed other).0 ((names other).0 s)), (λ x. (names other).1 ((changed other).1 x)));
  few = omega arith;
}

pub made_over : (clues : Clues) (line : LineId) (book : Account) (made : Result (Option Step) StepFault) (clue : List Block) → clue ≡ clue_at clues line → IsDerivation clues book
    → Makes clue line (line_of book.facts line) made → GivesNext clues line book made
made_over clues line book made clue e derivation makes =
    record { derivation = derivation; makes = subst (λ (blocks : List Block). Makes blocks line (line_of book.facts line) made) e makes }

-- a line that gave no step because no list fits it
pub dead_made : (clues : Clues) (line : LineId) (book : Account) (made : Result (Option Step) StepFault) → GivesNext clues line book made → made ≡ Err step_fault.Dead
    → ¬ CanFit (clue_at clues line) (line_of book.facts line)
dead_made clues line book made is e =
    subst (λ (r : Result (Option Step) StepFault). Makes (clue_at clues line) line (line_of book.facts line) r) e is.makes
