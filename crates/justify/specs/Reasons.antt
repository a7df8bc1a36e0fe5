-- The reason for one exclusion of a book.
use Rattle.std.specs.Prelude.{◌≡◌, ℕ, ◌<◌, List, length, Option, None, Some}
use Rattle.picture.specs.Rows.{line_of}
use Rattle.clues.specs.declared.block.Block.{Block}
use Rattle.clues.specs.ClueBook.{Clues, clue_at}
use Rattle.line_facts.specs.FactSets.{Leaves, row_on, col_on}
use Rattle.justify.specs.declared.premise.Premise.{Premise}
use Rattle.justify.specs.declared.step.Step.{Step}
use Rattle.justify.specs.declared.reason.Reason.{Reason}
use Rattle.justify.specs.Premises.{ArePremises, Mentions, Says, SaysBut}
use Rattle.justify.specs.Exclusions.{CanHaveWithout, ForcesFrom}
use Rattle.justify.specs.Steps.{step_at, Draws}
use Rattle.justify.specs.Book.{Account, IsDrawnBefore}

-- the place of a step that draws the exclusion, or none where no step does
abbrev pub Finds : List Step → ℕ → ℕ → ℕ → Option ℕ → Type 0
Finds steps row col k None = IsDrawnBefore steps (length steps) row col k → ⊥
Finds steps row col k (Some n) = (n < length steps) × Draws (step_at steps n) row col k

-- premises of a step, at ascending places, from which a line forces one exclusion, and no more than it needs
pub record Supports (clue : List Block) (cells : ℕ) (all : List Premise) (place colour : ℕ)
    (premises : List Premise) : Type 0 where
  pub are : ArePremises premises
  pub among : (i k : ℕ) → Says premises i k → Says all i k
  pub forced : ForcesFrom clue cells (Says premises) place colour
  pub trimmed : (cell : ℕ) → Mentions premises cell → CanHaveWithout clue cells (SaysBut premises cell) place colour

-- Why colour k is not in a cell: the step that drew it, its line, and premises of that step from which the line forces
-- this one exclusion, with no cell that can be left out. The exclusion itself is not among the premises.
pub record Argues (clues : Clues) (book : Account) (row col k : ℕ) (reason : Reason) : Type 0 where
  pub in_book : reason.step < length book.steps
  pub line : reason.line ≡ (step_at book.steps reason.step).line
  pub place : ℕ
  pub in_row : row ≡ row_on reason.line.axis reason.line.at place
  pub in_column : col ≡ col_on reason.line.axis reason.line.at place
  pub is_drawn : Says (step_at book.steps reason.step).drawn place k
  pub support : Supports (clue_at clues reason.line) (length (line_of book.base reason.line))
      (step_at book.steps reason.step).premises place k reason.premises
  pub apart : Says reason.premises place k → ⊥

-- no reason where the colour is left, and else one
abbrev pub Reasons : Clues → Account → ℕ → ℕ → ℕ → Option Reason → Type 0
Reasons clues book row col k None = Leaves book.facts row col k
Reasons clues book row col k (Some reason) = Argues clues book row col k reason
