-- Laws of books.
use Rattle.std.specs.Prelude.{ℕ, ◌↔◌, List, length}
use Rattle.line_facts.specs.Masks.{Masks}
use Rattle.picture.specs.declared.line_id.LineId.{LineId}
use Rattle.picture.specs.Rows.{line_of, HasLine}
use Rattle.clues.specs.declared.block.Block.{Block}
use Rattle.clues.specs.ClueBook.{Clues, clue_at}
use Rattle.line_facts.specs.declared.line_engine.Outcome.TheVariants.{Narrowed}
use Rattle.line_facts.specs.FactSets.{Excludes, Gains, IsClosed, IsClosedLine, IsWithin}
use Rattle.justify.specs.declared.step.Step.{Step}
use Rattle.justify.specs.Steps.{IsForcedStep, IsTrimmed}
use Rattle.justify.specs.Book.{Account, IsAccount, IsKnownBefore, AreFactsBehind, CanAdd, Adds, IsDerivation}
use Rattle.justify.specs.Book.{AreTrimmed}
use Rattle.justify.specs.NewSteps.{IsNewStep}

-- what the facts after some steps exclude is what is known by then
abbrev pub FactsAreWhatIsKnown : Type 0
FactsAreWhatIsKnown = (base facts : Masks) (steps : List Step) (n : ℕ) → AreFactsBehind base steps n facts
    → (row col k : ℕ) → Excludes facts row col k ↔ IsKnownBefore base steps n row col k

-- A new step of a line can be added to the book that it was made from. Then the facts gain
-- all that the line forces and nothing else, and the line is closed.
pub record NewStepsFollow : Type 0 where
  pub can_add : (book : Account) (clue : List Block) (line : LineId) (step : Step) → IsAccount book
      → HasLine book.facts line
      → IsNewStep clue line (line_of book.facts line) step → CanAdd book step
  pub gains : (old new : Account) (clue : List Block) (line : LineId) (step : Step) → Adds old step new
      → HasLine old.facts line
      → IsNewStep clue line (line_of old.facts line) step → Gains clue line old.facts new.facts Narrowed
  pub closes : (old new : Account) (clue : List Block) (line : LineId) (step : Step) → Adds old step new
      → HasLine old.facts line
      → IsNewStep clue line (line_of old.facts line) step → IsClosedLine clue (line_of new.facts line)

-- A new step is forced from its premises alone, and trimmed, by the clues that it was made with.
pub record NewStepsDerive : Type 0 where
  pub forced : (clues : Clues) (book : Account) (line : LineId) (step : Step) → IsAccount book
      → IsNewStep (clue_at clues line) line (line_of book.facts line) step
      → IsForcedStep (clue_at clues step.line) (length (line_of book.base step.line)) step
  pub trimmed : (clues : Clues) (book : Account) (line : LineId) (step : Step) → IsAccount book
      → IsNewStep (clue_at clues line) line (line_of book.facts line) step
      → IsTrimmed (clue_at clues step.line) (length (line_of book.base step.line)) step

-- a book with one more step is a derivation if the old one is and the step is forced, and trimmed if both are
pub record DerivationsGrow : Type 0 where
  pub derives : (clues : Clues) (old new : Account) (step : Step) → IsAccount old → Adds old step new
      → IsForcedStep (clue_at clues step.line) (length (line_of old.base step.line)) step → IsDerivation clues old
      → IsDerivation clues new
  pub trimmed : (clues : Clues) (old new : Account) (step : Step) → IsAccount old → Adds old step new
      → IsTrimmed (clue_at clues step.line) (length (line_of old.base step.line)) step → AreTrimmed clues old
      → AreTrimmed clues new

-- the facts of a derivation contain the base, and all closed facts that contain the base contain them
pub record DerivationsStayInside : Type 0 where
  pub holds : (book : Account) → IsAccount book → IsWithin book.base book.facts
  pub inside : (clues : Clues) (book : Account) → IsAccount book → IsDerivation clues book
      → (others : Masks) → IsClosed clues others → IsWithin book.base others → IsWithin book.facts others
