-- Books that grow turn by turn, until they are closed or a schedule is over.
use Rattle.std.proofs.Common.{◌≡◌, ℕ, ◌+◌, ◌-◌, ◌^◌, ◌<◌, ◌≤◌, List, [], ◌∷◌, ◌++◌, length, drop, refl, sym, ap, subst, ◌∙◌, arith, inl, inr, length-append}
use Rattle.std.specs.Prelude.{Err}
use Rattle.std.proofs.Math.ListN.{get_or-append}
use Rattle.std.proofs.Math.Seq.{drop-append_seam, get_or-append_right}
use Rattle.std.proofs.lemmas.Bool.{cases_lt}
use Rattle.std.proofs.lemmas.List.{append_assoc, append-nil}
use Rattle.picture.specs.declared.line_id.LineId.{LineId}
use Rattle.picture.specs.LineSet.{Lines, HasName, PutsNames, TakesOutName, name_count, no_names}
use Rattle.picture.specs.Rows.{line_of}
use Rattle.clues.specs.ClueBook.{Clues, clue_at}
use Rattle.line_facts.specs.declared.line_engine.Outcome.TheVariants.{Narrowed}
use Rattle.line_facts.specs.declared.meter.Meter.{Meter}
use Rattle.line_facts.specs.Counts.{Counts}
use Rattle.line_facts.specs.FactSets.{IsFacts, IsWithin}
use Rattle.line_facts.specs.Fits.{CanFit}
use Rattle.justify.specs.declared.step.Step.{Step}
use Rattle.justify.specs.Steps.{step_at, IsTrimmed}
use Rattle.justify.specs.Book.{Account, AreTrimmed, IsAccount, IsDerivation}
use Rattle.justify.proofs.LawLemmas.{stay_inside}
use Rattle.fixpoint.specs.ClosedFacts.{HasDeadLine, PutsCrossing}
use Rattle.fixpoint.specs.declared.fault.CloseFault.{CloseFault}
use Rattle.fixpoint.specs.declared.fault.CloseFault.TheVariants.{Dead, Memory}
use Rattle.propagate.specs.ClosingBooks.{ClosesBook, IsClosedBook}
use Rattle.propagate.specs.Turns.{cells_drawn, steps_added, Grows, Turn}
use Rattle.picture.proofs.LineSetLaws.{put_all_counts}
use Rattle.line_facts.proofs.GridLaws.{same_has_line, shape_sym, shape_trans}
use Rattle.line_facts.proofs.FitLaws.{counting_adds, tighter_fits, within_tighter}
use Rattle.fixpoint.proofs.ClosingLaws.{Closing, closing_ends, closing_goes_on, within_trans}
use Rattle.fixpoint.proofs.NameLaws.{take_counts}
use Rattle.fixpoint.specs.LeftToDo.{left_to_do}
use Rattle.fixpoint.proofs.LeftLaws.{less_to_do}
use Rattle.fixpoint.proofs.WorkLaws.{crossing_put, nothing_counted}

-- ---- growing

-- what holds of each step of two lists holds of each step of both together
each_joined : (R : Step → Type 0) (first last : List Step) → ((n : ℕ) → n < length first → R (step_at first n)) → ((n : ℕ) → n < length last → R (step_at last n)) → (n : ℕ)
    → n < length (first ++ last) → R (step_at (first ++ last) n)
each_joined R first last a b n l = elim (cases_lt n (length first)) [
  | inl m ↦ subst R (sym (get_or-append first last _ n m)) (a n m)
  | inr past ↦
      let len = length-append first last in
      subst R (sym (get_or-append_right first last n _ past)) (b (n - length first) (omega arith))
]

pub grows_none : (clues : Clues) (book : Account) → IsDerivation clues book → Grows clues book book []
grows_none clues book d = record { base = refl; steps = sym (append-nil book.steps); derivation = d; trimmed = λ n l. absurd (omega arith) }

pub grows_on : (clues : Clues) (old between new : Account) (first last : List Step) → Grows clues old between first → Grows clues between new last → Grows clues old new (first ++ last)
grows_on clues old between new first last a b =
    record {
      base = b.base ∙ a.base;
      steps = b.steps ∙ (ap (λ steps. steps ++ last) a.steps ∙ append_assoc old.steps first last);
      derivation = b.derivation;
      trimmed = each_joined (λ s. IsTrimmed (clue_at clues s.line) (length (line_of old.base s.line)) s) first last a.trimmed (rw (← a.base) b.trimmed);
    }

pub all_trimmed : (clues : Clues) (old new : Account) (added : List Step) → Grows clues old new added → AreTrimmed clues old → AreTrimmed clues new
all_trimmed clues old new added g t =
    let R : Step → Type 0 = λ s. IsTrimmed (clue_at clues s.line) (length (line_of old.base s.line)) s in
    rw g.base (subst (λ (steps : List Step). (n : ℕ) → n < length steps → R (step_at steps n)) (sym g.steps) (each_joined R old.steps added t g.trimmed))

-- the steps that were added are those after the old ones
pub added_behind : (clues : Clues) (old new : Account) (added : List Step) → Grows clues old new added → steps_added old new ≡ added
added_behind clues old new added g = ap (drop (length old.steps)) g.steps ∙ drop-append_seam old.steps added

pub grown : (clues : Clues) (old new : Account) (added : List Step) → Grows clues old new added → Grows clues old new (steps_added old new)
grown clues old new added g = let P : List Step → Type 0 = λ steps. Grows clues old new steps in subst P (sym (added_behind clues old new added g)) g

drawn_joined : (first last : List Step) → cells_drawn (first ++ last) ≡ cells_drawn first + cells_drawn last
drawn_joined [] last = omega arith
drawn_joined (step ∷ first) last = let r = drawn_joined first last in omega arith

-- ---- closing

-- the work so far
pub record BookWorking (dirty : Lines) (added : List Step) (agenda : Lines) (evaluations : ℕ) : Type 0 where
  pub at_most : evaluations + name_count agenda ≤ name_count dirty + cells_drawn added
  pub at_least : name_count dirty ≤ evaluations + name_count agenda
  pub steps : length added ≤ evaluations

-- while lines take their turns
pub record ClosingBook (clues : Clues) (longest : ℕ) (dirty : Lines) (start now : Account) (agenda : Lines) (old new : Meter) (before after : ℕ) : Type 0 where
  pub added : List Step
  pub evaluations : ℕ
  pub grows : Grows clues start now added
  pub closing : Closing clues longest start.facts now.facts agenda
  pub counts : Counts evaluations 0 old new before after
  pub working : BookWorking dirty added agenda evaluations

pub book_starts : (clues : Clues) (longest : ℕ) (dirty agenda : Lines) (start : Account) (meter : Meter) (calls : ℕ) → IsDerivation clues start → agenda ≡ dirty
    → Closing clues longest start.facts start.facts agenda
    → meter.evaluations < 2 ^ 64 → meter.trials < 2 ^ 64 → calls < 2 ^ 64 → ClosingBook clues longest dirty start start agenda meter meter calls calls
book_starts clues longest dirty agenda start meter calls d same c e t n =
    let count = ap name_count same in
    record {
      added = [];
      evaluations = 0;
      grows = grows_none clues start d;
      closing = c;
      counts = nothing_counted meter calls e t n;
      working = record { at_most = omega arith; at_least = omega arith; steps = omega arith };
    }

module _ (clues : Clues) (longest : ℕ) (dirty : Lines) (start old new : Account) (agenda rest changed after : Lines) (line : LineId) (m0 m1 m2 : Meter) (c0 c1 c2 : ℕ)
    (b : ClosingBook clues longest dirty start old agenda m0 m1 c0 c1) (h : HasName agenda line) (t : TakesOutName agenda rest line) (is : IsFacts old.facts) (turn : Turn clues line old new changed)
    (puts : PutsNames rest after changed) (counts : Counts 1 0 m1 m2 c1 c2) where
  crossing : PutsCrossing line (line_of old.facts line) (line_of new.facts line) rest after
  crossing = crossing_put line (line_of old.facts line) (line_of new.facts line) changed turn.names rest after puts

  works_on : BookWorking dirty (b.added ++ turn.added) after (b.evaluations + 1)
  works_on =
      let w = b.working in
      let steps = w.steps in
      let taken = take_counts agenda rest line h t in
      let put = put_all_counts rest after changed puts in
      let drawn = drawn_joined b.added turn.added in
      let len = length-append b.added turn.added in
      record { at_most = omega (arith, put.0, put.1); at_least = omega (arith, put.0, put.1); steps = omega arith }

  pub book_goes_on : ClosingBook clues longest dirty start new after m0 m2 c0 c2
  book_goes_on = record {
    added = b.added ++ turn.added;
    evaluations = b.evaluations + 1;
    grows = grows_on clues start old new b.added turn.added b.grows turn.grows;
    closing = closing_goes_on clues longest start.facts old.facts new.facts agenda rest after line Narrowed b.closing h t is turn.gains refl crossing;
    counts = counting_adds b.evaluations 0 1 0 m0 m1 m2 c0 c1 c2 b.counts counts;
    working = works_on;
  }

  pub book_comes_nearer : IsWithin old.facts new.facts → left_to_do new.facts after < left_to_do old.facts agenda
  book_comes_nearer w = less_to_do old.facts new.facts agenda rest after line is (b.closing.lines line h) w h t crossing

pub book_closes : (clues : Clues) (longest : ℕ) (dirty : Lines) (start now : Account) (agenda : Lines) (m0 m : Meter) (c0 c : ℕ) → IsAccount start → IsDerivation clues start
    → ClosingBook clues longest dirty start now agenda m0 m c0 c → agenda ≡ no_names → IsClosedBook clues start now
book_closes clues longest dirty start now agenda m0 m c0 c is d b none =
    let ends = closing_ends clues longest start.facts now.facts agenda Narrowed b.closing none refl in
    let least = ends.least refl in
    record {
      grows = grown clues start now b.added b.grows;
      least = record {
        closed = least.closed;
        holds = within_trans start.base start.facts now.facts (stay_inside.holds start is) least.holds;
        least = λ others closed w. least.least others closed (stay_inside.inside clues start is d others closed w);
      };
      fits = ends.fits refl;
    }

-- a line that no list fits now has none under closed facts that hold the base
pub book_dies : (clues : Clues) (longest : ℕ) (start now : Account) (agenda : Lines) (line : LineId) → IsAccount start → IsDerivation clues start → Closing clues longest start.facts now.facts agenda
    → HasName agenda line → ¬ CanFit (clue_at clues line) (line_of now.facts line) → HasDeadLine clues start.base
book_dies clues longest start now agenda line is d c h dead =
    let shape = shape_trans (stay_inside.holds start is).same_shape c.holds.same_shape in
    record {
      line = line;
      has = same_has_line now.facts start.base line (shape_sym shape) (c.lines line h);
      dead = λ others closed w f.
          let within = c.inside others closed (stay_inside.inside clues start is d others closed w) in
          dead (f.0, tighter_fits (clue_at clues line) (line_of now.facts line) (line_of others line) f.0 (within_tighter now.facts others within line) f.1);
    }

-- an error of closing: either some line is dead, or memory was refused
pub book_fails : (clues : Clues) (start : Account) (fault : CloseFault) → (fault ≡ Dead → HasDeadLine clues start.base) → ClosesBook clues start (Err fault)
book_fails clues start Dead dead = dead refl
book_fails clues start Memory dead = tt {0}
