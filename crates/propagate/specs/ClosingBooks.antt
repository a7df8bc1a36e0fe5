-- Books closed line by line.
use Rattle.std.specs.Prelude.{ℕ, ◌+◌, ◌≤◌, List, length, Result, Ok, Err}
use Rattle.picture.specs.LineSet.{Lines, name_count}
use Rattle.clues.specs.ClueBook.{Clues}
use Rattle.line_facts.specs.declared.meter.Meter.{Meter}
use Rattle.line_facts.specs.Counts.{Counts}
use Rattle.line_facts.specs.FactSets.{IsLeast}
use Rattle.justify.specs.declared.step.Step.{Step}
use Rattle.justify.specs.Book.{Account}
use Rattle.fixpoint.specs.declared.fault.CloseFault.{CloseFault}
use Rattle.fixpoint.specs.declared.fault.CloseFault.TheVariants as fault
use Rattle.fixpoint.specs.ClosedFacts.{EachFits, HasDeadLine}
use Rattle.propagate.specs.Turns.{cells_drawn, steps_added, Grows}

-- The old book with trimmed steps added: a derivation whose facts are the
-- least closed ones over its base, and some list fits each line under them.
pub record IsClosedBook (clues : Clues) (old new : Account) : Type 0 where
  pub grows : Grows clues old new (steps_added old new)
  pub least : IsLeast clues old.base new.facts
  pub fits : EachFits clues new.facts

-- such a book; or there is a line that no list fits under the least closed facts
abbrev pub ClosesBook : Clues → Account → Result Account CloseFault → Type 0
ClosesBook clues old (Ok new) = IsClosedBook clues old new
ClosesBook clues old (Err fault.Dead) = HasDeadLine clues old.base
ClosesBook clues old (Err fault.Memory) = Unit {0}

-- How many evaluations close a book: at least one for each line that waited, and at least one for
-- each step that was added. At most there is one for each of those lines and each cell on which a
-- step draws.
pub record SufficeToClose (dirty : Lines) (added : List Step) (evaluations : ℕ) : Type 0 where
  pub at_least_lines : name_count dirty ≤ evaluations
  pub at_least_steps : length added ≤ evaluations
  pub at_most : evaluations ≤ name_count dirty + cells_drawn added

-- how many evaluations there were, which is what the meter and the engine counted; nothing was tried
abbrev pub BookWorks : Lines → Account → Result Account CloseFault → Meter → Meter → ℕ → ℕ → Type 0
BookWorks dirty old (Ok new) start end before after = (evaluations : ℕ) × Counts evaluations 0 start end before after
    × SufficeToClose dirty (steps_added old new) evaluations
BookWorks dirty old (Err _) start end before after = (evaluations : ℕ) × Counts evaluations 0 start end before after
