-- Lines forced one after another, as a schedule names them.
use Rattle.std.specs.Prelude.{◌≡◌, ◌⊎◌, ◌≤◌, List, [], ◌∷◌, ℕ, length, Result, Ok, Err}
use Rattle.line_facts.specs.Masks.{Masks}
use Rattle.picture.specs.declared.line_id.LineId.{LineId}
use Rattle.picture.specs.Rows.{line_of}
use Rattle.clues.specs.ClueBook.{Clues, clue_at}
use Rattle.line_facts.specs.declared.line_engine.Outcome.TheVariants.{Narrowed}
use Rattle.line_facts.specs.declared.meter.Meter.{Meter}
use Rattle.line_facts.specs.Counts.{Counts}
use Rattle.line_facts.specs.Fits.{CanFit}
use Rattle.line_facts.specs.FactSets.{Gains}
use Rattle.justify.specs.Book.{Account}
use Rattle.fixpoint.specs.declared.fault.CloseFault.{CloseFault}
use Rattle.fixpoint.specs.declared.fault.CloseFault.TheVariants as fault
use Rattle.propagate.specs.Turns.{steps_added, Grows, TakeTurns}

-- the facts after a schedule: in order, each line that it names
-- forces all that it can, and some list fits each in its turn
abbrev pub AreAfter : Clues → Masks → List LineId → Masks → Type 0
AreAfter clues base [] facts = facts ≡ base
AreAfter clues base (line ∷ lines) facts =
    (between : Masks) × (Gains (clue_at clues line) line base between Narrowed × AreAfter clues between lines facts)

-- no list fits some line of a schedule, in its turn
abbrev pub IsDeadInTurn : Clues → Masks → List LineId → Type 0
IsDeadInTurn clues base [] = ⊥
IsDeadInTurn clues base (line ∷ lines) =
    (¬ CanFit (clue_at clues line) (line_of base line)) ⊎ ((between : Masks)
    × (Gains (clue_at clues line) line base between Narrowed × IsDeadInTurn clues between lines))

-- The old book with a step for each turn in which a named line drew
-- something, in order; its facts are those after the schedule.
pub record IsAfterSchedule (clues : Clues) (old : Account) (lines : List LineId) (new : Account) : Type 0 where
  pub grows : Grows clues old new (steps_added old new)
  pub in_turn : TakeTurns clues lines old new
  pub facts : AreAfter clues old.facts lines new.facts

-- such a book, or no list fits a named line in its turn
abbrev pub RunsSchedule : Clues → Account → List LineId → Result Account CloseFault → Type 0
RunsSchedule clues old lines (Ok new) = IsAfterSchedule clues old lines new
RunsSchedule clues old lines (Err fault.Dead) = IsDeadInTurn clues old.facts lines
RunsSchedule clues old lines (Err fault.Memory) = Unit {0}

-- each named line is evaluated once, up to the one at which the schedule ends early; nothing is tried
abbrev pub ScheduleWorks : List LineId → Result Account CloseFault → Meter → Meter → ℕ → ℕ → Type 0
ScheduleWorks lines (Ok _) start end before after = Counts (length lines) 0 start end before after
ScheduleWorks lines (Err _) start end before after =
    (evaluations : ℕ) × (evaluations ≤ length lines) × Counts evaluations 0 start end before after
