-- Lines that add steps to a book, each in its turn.
use Rattle.std.specs.Prelude.{◌≡◌, ℕ, ◌+◌, ◌<◌, ◌≤◌, ◌⊎◌, ◌↔◌, List, [], ◌∷◌, ◌++◌, length, drop, Option, Result}
use Rattle.picture.specs.declared.line_id.LineId.{LineId}
use Rattle.picture.specs.LineSet.{Lines, HasName, name_count}
use Rattle.picture.specs.Rows.{line_of}
use Rattle.clues.specs.ClueBook.{Clues, clue_at}
use Rattle.line_facts.specs.declared.line_engine.Outcome.TheVariants.{Narrowed}
use Rattle.line_facts.specs.CrossedLines.{CrossesChange}
use Rattle.picture.specs.CrossingLines.{crossing_at}
use Rattle.line_facts.specs.FactSets.{Gains}
use Rattle.justify.specs.declared.fault.StepFault.{StepFault}
use Rattle.justify.specs.declared.step.Step.{Step}
use Rattle.justify.specs.Premises.{Mentions}
use Rattle.justify.specs.Steps.{step_at, IsTrimmed}
use Rattle.justify.specs.Book.{Account, Adds, IsDerivation}
use Rattle.justify.specs.NewSteps.{DrawsNothing, IsNewStep, Makes}

-- what a line gives next over a book that is a derivation
pub record GivesNext (clues : Clues) (line : LineId) (book : Account)
    (made : Result (Option Step) StepFault) : Type 0 where
  pub derivation : IsDerivation clues book
  pub makes : Makes (clue_at clues line) line (line_of book.facts line) made

-- A line in its turn, which some list fits: it forces nothing new and the book stays, or the step of all that it newly
-- forces is appended to the others.
abbrev pub TakesTurn : Clues → LineId → Account → Account → Type 0
TakesTurn clues line old new =
    (DrawsNothing (clue_at clues line) (line_of old.facts line) × (new ≡ old))
    ⊎ ((step : Step) × IsNewStep (clue_at clues line) line (line_of old.facts line) step × Adds old step new)

-- the lines of a list, each in its turn
abbrev pub TakeTurns : Clues → List LineId → Account → Account → Type 0
TakeTurns clues [] old new = new ≡ old
TakeTurns clues (line ∷ lines) old new =
    (between : Account) × TakesTurn clues line old between × TakeTurns clues lines between new

-- on how many cells steps draw, each cell counted once for every step that draws on it
abbrev pub cells_drawn : List Step → ℕ
cells_drawn [] = 0
cells_drawn (step ∷ steps) = length step.drawn + cells_drawn steps

-- the steps of a book after those that an older one has
abbrev pub steps_added : Account → Account → List Step
steps_added old new = drop (length old.steps) new.steps

-- A book with steps added: it has the same base and all old steps before them, it is a derivation, and no step that was
-- added has a premise that it can do without.
pub record Grows (clues : Clues) (old new : Account) (added : List Step) : Type 0 where
  pub base : new.base ≡ old.base
  pub steps : new.steps ≡ old.steps ++ added
  pub derivation : IsDerivation clues new
  pub trimmed : (n : ℕ) → n < length added → IsTrimmed (clue_at clues (step_at added n).line)
      (length (line_of old.base (step_at added n).line)) (step_at added n)

-- a line that crosses a step's line at a cell on which the step draws
pub record CrossesDrawn (step : Step) (other : LineId) : Type 0 where
  pub is_crossing : other ≡ crossing_at step.line other.at
  pub drawn : Mentions step.drawn other.at

-- What a line's turn gives: a book with at most one step added, facts that gained all that the
-- line forces, and the lines that cross it where it drew, no more than there are cells drawn on.
pub record Turn (clues : Clues) (line : LineId) (old new : Account) (changed : Lines) : Type 0 where
  pub added : List Step
  pub grows : Grows clues old new added
  pub one : length added ≤ 1
  pub gains : Gains (clue_at clues line) line old.facts new.facts Narrowed
  pub names : (other : LineId)
      → HasName changed other ↔ CrossesChange line (line_of old.facts line) (line_of new.facts line) other
  pub few : name_count changed ≤ cells_drawn added
