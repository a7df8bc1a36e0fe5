-- The laws of books.
use Rattle.std.proofs.Common.{◌≡◌, ℕ, zero, suc, ◌<◌, ◌≤◌, List, [], ◌∷◌, ◌++◌, length, refl, sym, ap, ◌∙◌, subst, arith, inl, inr, get_or}
use Rattle.std.specs.Prelude.{IsBitSet}
use Rattle.std.proofs.lemmas.Bool.{cases_eq}
use Rattle.line_facts.specs.Masks.{Masks}
use Rattle.picture.specs.declared.line_id.LineId.{LineId}
use Rattle.picture.specs.Rows.{cell_at, line_of, width_of, HasLine}
use Rattle.clues.specs.declared.block.Block.{Block}
use Rattle.clues.specs.ClueBook.{Clues, clue_at}
use Rattle.line_facts.specs.declared.line_engine.Outcome.TheVariants.{Narrowed, Dead}
use Rattle.line_facts.specs.Fits.{CanHave}
use Rattle.line_facts.specs.NarrowedLine.{Narrows}
use Rattle.line_facts.specs.FactSets.{Leaves, IsWithin, IsClosed, IsClosedLine, Gains, row_on, col_on}
use Rattle.justify.specs.declared.step.Step.{Step}
use Rattle.justify.specs.Premises.{Says}
use Rattle.justify.specs.Steps.{step_at, Draws, IsForcedStep, IsTrimmed}
use Rattle.justify.specs.Book.{Account, IsAccount, IsDrawnBefore, CanAdd, GainDrawn, Adds, IsDerivation, AreTrimmed}
use Rattle.justify.specs.NewSteps.{IsNewStep}
use Rattle.justify.specs.Laws.{FactsAreWhatIsKnown, NewStepsFollow, NewStepsDerive, DerivationsGrow, DerivationsStayInside}
use Rattle.line_facts.proofs.GridLaws.{same_line_length, same_has_line, shape_sym, shape_trans, cell_on}
use Rattle.line_facts.proofs.FitLaws.{have_left, have_narrowed}
use Rattle.picture.proofs.BitLaws.{same_bits, bit_below}
use Rattle.justify.proofs.SaidLemmas.{bit_or_not}
use Rattle.justify.proofs.PlaceLemmas.{one_along, drawn_or_not}
use Rattle.justify.proofs.BookLemmas.{step_before, step_last, one_longer}
use Rattle.justify.proofs.ForcingLemmas.{have_without}

-- ---- what is known

pub facts_known : FactsAreWhatIsKnown
facts_known base facts steps n b row col k = grind (arith, bit_or_not, cell_at, drawn_or_not)

-- ---- new steps

-- what a line of the facts has at a place
at_place : (facts : Masks) (line : LineId) (i k : ℕ) → IsBitSet (get_or (line_of facts line) i 0) k → Leaves facts (row_on line.axis line.at i) (col_on line.axis line.at i) k
at_place facts line i k s = let P : ℕ → Type 0 = λ m. IsBitSet m k in subst P (cell_on facts line i) s

place_at : (facts : Masks) (line : LineId) (i k : ℕ) → Leaves facts (row_on line.axis line.at i) (col_on line.axis line.at i) k → IsBitSet (get_or (line_of facts line) i 0) k
place_at facts line i k s = let P : ℕ → Type 0 = λ m. IsBitSet m k in subst P (sym (cell_on facts line i)) s

can_add_own : (book : Account) (clue : List Block) (step : Step) → IsAccount book → HasLine book.facts step.line → IsNewStep clue step.line (line_of book.facts step.line) step → CanAdd book step
can_add_own book clue step is has n =
    let shape = is.behind.same_shape in
    let len = same_line_length book.base book.facts step.line shape in
    record {
      has_line = same_has_line book.facts book.base step.line (shape_sym shape) has;
      premises_inside = λ i m. (let l = n.inside i m in omega arith);
      drawn_inside = λ i m. (let l = n.drawn_inside i m in omega arith);
      something = n.something;
      known = λ i k s.
          let w = (n.whole i k (record { which = s.which; within = s.within; here = s.here })).0 s in
          (facts_known book.base book.facts book.steps (length book.steps) is.behind _ _ k).0 (λ leaves. w.1 (place_at book.facts step.line i k leaves));
      drawn_once = λ i k s d.
          let leaves = at_place book.facts step.line i k (n.draws i k s).0 in
          ((is.behind.leaves _ _ k).0 leaves).1 d;
    }

can_add : (book : Account) (clue : List Block) (line : LineId) (step : Step) → IsAccount book → HasLine book.facts line → IsNewStep clue line (line_of book.facts line) step → CanAdd book step
can_add book clue line step is has n =
    subst (λ (l : LineId). HasLine book.facts l → IsNewStep clue l (line_of book.facts l) step → CanAdd book step) n.of_line (can_add_own book clue step is) has n

module _ (clue : List Block) (step : Step) (old new : Masks) (n : IsNewStep clue step.line (line_of old step.line) step) (g : GainDrawn step old new) where
  still_left : (i k : ℕ) → IsBitSet (get_or (line_of new step.line) i 0) k → CanHave clue (line_of old step.line) i k
  still_left i k s =
      let o = (g.leaves _ _ k).0 (at_place new step.line i k s) in
      n.keeps i k (place_at old step.line i k o.0) (λ says. o.1 (record { place = i; in_row = refl; in_column = refl; says = says }))

  left_by : (i k : ℕ) → CanHave clue (line_of old step.line) i k → IsBitSet (get_or (line_of new step.line) i 0) k
  left_by i k h = place_at new step.line i k ((g.leaves _ _ k).1 (
    at_place old step.line i k (have_left h),
    λ d.
        let same = one_along step.line _ _ d.place i d.in_row d.in_column refl refl in
        let says = (let P : ℕ → Type 0 = λ j. Says step.drawn j k in subst P same d.says) in
        (n.draws i k says).1 h,
  ))

  narrows_own : Narrows clue (line_of old step.line) Narrowed (line_of new step.line)
  narrows_own = record {
    same_length = same_line_length old new step.line g.same_shape;
    fits = ((λ _. n.fits), (λ _. refl));
    exact = λ i k. (still_left i k, left_by i k);
    empty = λ e. (let x : Narrowed ≡ Dead = e in absurd cc);
  }

  gains_own : Gains clue step.line old new Narrowed
  gains_own = record {
    same_shape = g.same_shape;
    narrows = narrows_own;
    elsewhere = λ row col off. same_bits (cell_at new row col) (cell_at old row col) (λ k. (
      (λ s. ((g.leaves row col k).0 s).0),
      (λ s. (g.leaves row col k).1 (s, λ d. off (d.place, d.in_row, d.in_column))),
    ));
  }

  closes_own : IsClosedLine clue (line_of new step.line)
  closes_own i k s = have_narrowed clue (line_of old step.line) (line_of new step.line) Narrowed narrows_own i k (still_left i k s)

gains_new : (old new : Account) (clue : List Block) (line : LineId) (step : Step) → Adds old step new → HasLine old.facts line → IsNewStep clue line (line_of old.facts line) step
    → Gains clue line old.facts new.facts Narrowed
gains_new old new clue line step a has n =
    subst (λ (l : LineId). IsNewStep clue l (line_of old.facts l) step → Gains clue l old.facts new.facts Narrowed) n.of_line (λ m. gains_own clue step old.facts new.facts m a.facts) n

closes_new : (old new : Account) (clue : List Block) (line : LineId) (step : Step) → Adds old step new → HasLine old.facts line → IsNewStep clue line (line_of old.facts line) step
    → IsClosedLine clue (line_of new.facts line)
closes_new old new clue line step a has n = grind (arith, closes_own, line_of)

pub new_follow : NewStepsFollow
new_follow = record { can_add = can_add; gains = gains_new; closes = closes_new }

forced_new : (clues : Clues) (book : Account) (line : LineId) (step : Step) → IsAccount book → IsNewStep (clue_at clues line) line (line_of book.facts line) step
    → IsForcedStep (clue_at clues step.line) (length (line_of book.base step.line)) step
forced_new clues book line step is n = grind (arith, clue_at, length, line_of, same_line_length)

trimmed_new : (clues : Clues) (book : Account) (line : LineId) (step : Step) → IsAccount book → IsNewStep (clue_at clues line) line (line_of book.facts line) step
    → IsTrimmed (clue_at clues step.line) (length (line_of book.base step.line)) step
trimmed_new clues book line step is n = grind (arith, clue_at, length, line_of, same_line_length)

pub new_derive : NewStepsDerive
new_derive = record { forced = forced_new; trimmed = trimmed_new }

-- ---- one more step

-- what holds of each old step and of the new one holds of each
each_more : (R : Step → Type 0) (old : List Step) (step : Step) → ((n : ℕ) → n < length old → R (step_at old n)) → R step → (n : ℕ) → n < length (old ++ step ∷ []) → R (step_at (old ++ step ∷ []) n)
each_more R old step before now n l = elim (cases_eq n (length old)) [
  | inl e ↦ (let P : ℕ → Type 0 = λ m. R (step_at (old ++ step ∷ []) m) in subst P (sym e) (subst R (sym (step_last old step)) now))
  | inr other ↦
      let len = one_longer old step in
      let m : n < length old = omega arith in
      subst R (sym (step_before old step n m)) (before n m)
]

each_added : (R : Step → Type 0) (old new : Account) (step : Step) → new.steps ≡ old.steps ++ step ∷ [] → ((n : ℕ) → n < length old.steps → R (step_at old.steps n)) → R step → (n : ℕ)
    → n < length new.steps → R (step_at new.steps n)
each_added R old new step e before now =
    subst (λ (steps : List Step). (n : ℕ) → n < length steps → R (step_at steps n)) (sym e) (each_more R old.steps step before now)

derives_more : (clues : Clues) (old new : Account) (step : Step) → IsAccount old → Adds old step new → IsForcedStep (clue_at clues step.line) (length (line_of old.base step.line)) step
    → IsDerivation clues old → IsDerivation clues new
derives_more clues old new step is a forced d = record {
  rows = ap length a.base ∙ d.rows;
  columns = ap width_of a.base ∙ d.columns;
  forced =
      rw a.base (each_added (λ s. IsForcedStep (clue_at clues s.line) (length (line_of old.base s.line)) s) old new step a.steps d.forced forced);
}

trimmed_more : (clues : Clues) (old new : Account) (step : Step) → IsAccount old → Adds old step new → IsTrimmed (clue_at clues step.line) (length (line_of old.base step.line)) step
    → AreTrimmed clues old → AreTrimmed clues new
trimmed_more clues old new step is a trimmed t =
    rw a.base (each_added (λ s. IsTrimmed (clue_at clues s.line) (length (line_of old.base s.line)) s) old new step a.steps t trimmed)

pub derivations_grow : DerivationsGrow
derivations_grow = record { derives = derives_more; trimmed = trimmed_more }

-- ---- inside all closed facts

holds_base : (book : Account) → IsAccount book → IsWithin book.base book.facts
holds_base book is = record { same_shape = is.behind.same_shape; leaves = λ row col k s. ((is.behind.leaves row col k).0 s).0 }

module _ (clues : Clues) (book : Account) (is : IsAccount book) (derives : IsDerivation clues book) (others : Masks) (closed : IsClosed clues others) (w : IsWithin book.base others) where
  -- a step whose premises the others hold draws nothing that they leave
  draws_nothing_left : (n : ℕ) → n < length book.steps → ((row col k : ℕ) → Leaves others row col k → IsDrawnBefore book.steps n row col k → ⊥) → (row col k : ℕ) → Leaves others row col k
      → Draws (step_at book.steps n) row col k → ⊥
  draws_nothing_left n l before row col k leaves d =
      let step = step_at book.steps n in
      let follows = is.follows n l in
      let line = line_of others step.line in
      let has = same_has_line book.base others step.line w.same_shape follows.has_line in
      let len = same_line_length book.base others step.line w.same_shape in
      let avoids : (i c : ℕ) → i < length (line_of book.base step.line) → IsBitSet (get_or line i 0) c → (c < 16) × (Says step.premises i c → ⊥) =
      λ i c m s.
      let there = at_place others step.line i c s in
      let base = w.leaves _ _ c there in
      (bit_below _ 16 c (is.base_facts.masks _ _) base, λ says. elim (follows.known i c says) [ inl given ↦ given base | inr drawn ↦ before _ _ c there drawn ]) in
      let P : ℕ → ℕ → Type 0 = λ r c. Leaves others r c k in
      let at : Leaves others (row_on step.line.axis step.line.at d.place) (col_on step.line.axis step.line.at d.place) k =
      (let Q : ℕ → Type 0 = λ r. Leaves others r col k in let R : ℕ → Type 0 = λ c. Leaves others (row_on step.line.axis step.line.at d.place) c k in subst R d.in_column (subst Q d.in_row leaves)) in
      let can = closed step.line has d.place k (place_at others step.line d.place k at) in
      derives.forced n l d.place k d.says (have_without (clue_at clues step.line) line (length (line_of book.base step.line)) (Says step.premises) len avoids d.place k can)

  none_drawn : (n : ℕ) → n ≤ length book.steps → (row col k : ℕ) → Leaves others row col k → IsDrawnBefore book.steps n row col k → ⊥
  none_drawn zero l row col k leaves d = absurd (let b = d.before in omega arith)
  none_drawn (suc n) l row col k leaves d =
      let before = none_drawn n (omega arith) in
      elim (cases_eq d.which n) [
        | inl e ↦ (let P : ℕ → Type 0 = λ m. Draws (step_at book.steps m) row col k in draws_nothing_left n (omega arith) before row col k leaves (subst P e d.draws))
        | inr other ↦ before row col k leaves (record { which = d.which; before = (let b = d.before in omega arith); draws = d.draws })
      ]

  inside_closed : IsWithin book.facts others
  inside_closed = record {
    same_shape = shape_trans (shape_sym is.behind.same_shape) w.same_shape;
    leaves = λ row col k s. (is.behind.leaves row col k).1 (w.leaves row col k s, none_drawn (length book.steps) (omega arith) row col k s);
  }

pub stay_inside : DerivationsStayInside
stay_inside = record { holds = holds_base; inside = inside_closed }
