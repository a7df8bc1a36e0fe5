-- Books whose lines take their turns as a schedule names them.
use Rattle.std.proofs.Common.{◌≡◌, ℕ, ◌+◌, ◌<◌, List, [], ◌∷◌, ◌++◌, length, drop, get_or, refl, sym, subst, inl, inr, Err, drop-cons, add-one}
use Rattle.std.specs.List.{All}
use Rattle.line_facts.specs.Masks.{Masks}
use Rattle.picture.specs.declared.line_id.LineId.{LineId}
use Rattle.picture.specs.LineSet.{Lines}
use Rattle.picture.specs.Rows.{line_of, HasLine}
use Rattle.clues.specs.ClueBook.{Clues, clue_at}
use Rattle.line_facts.specs.Fits.{CanFit}
use Rattle.line_facts.specs.FactSets.{IsClosed, IsLeast, IsWithin, SameShape}
use Rattle.line_facts.proofs.LawLemmas.{one_least}
use Rattle.justify.specs.declared.step.Step.{Step}
use Rattle.justify.specs.Book.{Account, IsAccount, IsDerivation}
use Rattle.justify.proofs.LawLemmas.{stay_inside}
use Rattle.fixpoint.specs.declared.fault.CloseFault.{CloseFault}
use Rattle.fixpoint.specs.declared.fault.CloseFault.TheVariants.{Dead, Memory}
use Rattle.fixpoint.specs.ClosedFacts.{AreClosable}
use Rattle.propagate.specs.Schedule.{AreAfter, IsDeadInTurn, RunsSchedule}
use Rattle.propagate.specs.Turns.{Grows, TakesTurn, TakeTurns, Turn}
use Rattle.propagate.specs.Laws.{SchedulesFillBooks}
use Rattle.line_facts.proofs.GridLaws.{same_has_line, shape_refl, shape_trans}
use Rattle.fixpoint.proofs.ClosingLaws.{same_sizes, within_trans}
use Rattle.propagate.proofs.ScheduleLemmas.{schedules_lead_inside}
use Rattle.propagate.proofs.GrowLemmas.{grows_none, grows_on}

-- After some lines of a schedule: what the rest of it leads to from here, the whole of it leads to from the start.
pub record Scheduled (clues : Clues) (longest : ℕ) (start now : Account) (lines rest : List LineId) : Type 0 where
  pub added : List Step
  pub grows : Grows clues start now added
  pub same_shape : SameShape start.facts now.facts
  pub closable : AreClosable clues longest now.facts
  pub in_turn : (end : Account) → TakeTurns clues rest now end → TakeTurns clues lines start end
  pub facts : (end : List (List ℕ)) → AreAfter clues now.facts rest end → AreAfter clues start.facts lines end
  pub dead : IsDeadInTurn clues now.facts rest → IsDeadInTurn clues start.facts lines

pub schedule_starts : (clues : Clues) (longest : ℕ) (start : Account) (lines : List LineId) → IsDerivation clues start → AreClosable clues longest start.facts
    → Scheduled clues longest start start lines lines
schedule_starts clues longest start lines d c = record {
  added = [];
  grows = grows_none clues start d;
  same_shape = shape_refl start.facts;
  closable = c;
  in_turn = λ end t. t;
  facts = λ end a. a;
  dead = λ d. d;
}

module _ (clues : Clues) (longest : ℕ) (start old : Account) (lines rest : List LineId) (line : LineId) (s : Scheduled clues longest start old lines (line ∷ rest)) where
  pub schedule_goes_on : (new : Account) (changed : Lines) → TakesTurn clues line old new → Turn clues line old new changed → Scheduled clues longest start new lines rest
  schedule_goes_on new changed takes turn =
      let g = turn.gains in
      record {
        added = s.added ++ turn.added;
        grows = grows_on clues start old new s.added turn.added s.grows turn.grows;
        same_shape = shape_trans s.same_shape g.same_shape;
        closable = same_sizes clues longest old.facts new.facts g.same_shape s.closable;
        in_turn = λ end t. s.in_turn end (new, takes, t);
        facts = λ end a. s.facts end (new.facts, (g, a));
        dead = λ d. s.dead (inr (new.facts, (g, d)));
      }

  pub schedule_dies : ¬ CanFit (clue_at clues line) (line_of old.facts line) → IsDeadInTurn clues start.facts lines
  schedule_dies dead = s.dead (inl dead)

  pub schedule_has_line : HasLine start.facts line → HasLine old.facts line
  schedule_has_line has = same_has_line start.facts old.facts line s.same_shape has

-- the next line of a list
pub next_in_turn : (clues : Clues) (longest : ℕ) (start now : Account) (lines : List LineId) (n : ℕ) (none : LineId) → n < length lines → Scheduled clues longest start now lines (drop n lines)
    → Scheduled clues longest start now lines (get_or lines n none ∷ drop (n + 1) lines)
next_in_turn clues longest start now lines n none l s =
    subst (λ (m : ℕ). Scheduled clues longest start now lines (get_or lines n none ∷ drop m lines)) (sym (add-one n))
    (subst (λ (rest : List LineId). Scheduled clues longest start now lines rest) (drop-cons lines n none l) s)

-- an error of a schedule: either a line is dead in its turn, or memory was refused
pub schedule_fails : (clues : Clues) (start : Account) (lines : List LineId) (fault : CloseFault) → (fault ≡ Dead → IsDeadInTurn clues start.facts lines) → RunsSchedule clues start lines (Err fault)
schedule_fails clues start lines Dead dead = dead refl
schedule_fails clues start lines Memory dead = tt {0}

-- ---- what schedules lead to, over the base of a book

module _ (clues : Clues) (book : Account) (is : IsAccount book) (d : IsDerivation clues book) where
  fills_inside : (lines : List LineId) (facts : Masks) → All (HasLine book.facts) lines → AreAfter clues book.facts lines facts → (others : Masks) → IsClosed clues others → IsWithin book.base others
      → IsWithin facts others
  fills_inside lines facts all a others closed w = schedules_lead_inside.inside clues book.facts lines facts all a others closed (stay_inside.inside clues book is d others closed w)

  fills_least : (lines : List LineId) (facts : Masks) → All (HasLine book.facts) lines → AreAfter clues book.facts lines facts → IsClosed clues facts → IsLeast clues book.base facts
  fills_least lines facts all a closed = record {
    closed = closed;
    holds = within_trans book.base book.facts facts (stay_inside.holds book is) (schedules_lead_inside.holds clues book.facts lines facts a);
    least = fills_inside lines facts all a;
  }

pub schedules_fill : SchedulesFillBooks
schedules_fill = record {
  inside = λ clues book lines facts is d. fills_inside clues book is d lines facts;
  least = λ clues book lines facts is d. fills_least clues book is d lines facts;
  order = λ clues book lines more facts others is d all every a b closed shut.
      one_least clues book.base facts others (fills_least clues book is d lines facts all a closed) (fills_least clues book is d more others every b shut);
}
