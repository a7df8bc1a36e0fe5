-- Laws of schedules, and of books that schedules fill.
use Rattle.std.specs.Prelude.{◌≡◌, List}
use Rattle.std.specs.List.{All}
use Rattle.line_facts.specs.Masks.{Masks}
use Rattle.picture.specs.declared.line_id.LineId.{LineId}
use Rattle.picture.specs.Rows.{HasLine}
use Rattle.clues.specs.ClueBook.{Clues}
use Rattle.line_facts.specs.FactSets.{IsClosed, IsLeast, IsWithin}
use Rattle.justify.specs.Book.{Account, IsAccount, IsDerivation}
use Rattle.fixpoint.specs.ClosedFacts.{HasDeadLine}
use Rattle.propagate.specs.Schedule.{AreAfter, IsDeadInTurn}

-- A schedule leads to one result, whatever lines it names and however often: the facts after it
-- hold the base and lie inside the least closed facts over it, and where they are closed they
-- are the least. A line that is dead in its turn is dead under every closed facts over the base.
pub record SchedulesLeadInside : Type 0 where
  pub one : (clues : Clues) (base : Masks) (lines : List LineId) (facts others : Masks)
      → AreAfter clues base lines facts → AreAfter clues base lines others → facts ≡ others
  pub holds : (clues : Clues) (base : Masks) (lines : List LineId) (facts : Masks) → AreAfter clues base lines facts
      → IsWithin base facts
  pub inside : (clues : Clues) (base : Masks) (lines : List LineId) (facts : Masks) → All (HasLine base) lines
      → AreAfter clues base lines facts → (others : Masks) → IsClosed clues others → IsWithin base others
      → IsWithin facts others
  pub least : (clues : Clues) (base : Masks) (lines : List LineId) (facts : Masks) → All (HasLine base) lines
      → AreAfter clues base lines facts → IsClosed clues facts → IsLeast clues base facts
  pub dead : (clues : Clues) (base : Masks) (lines : List LineId) → All (HasLine base) lines
      → IsDeadInTurn clues base lines → HasDeadLine clues base
  pub not_both : (clues : Clues) (base : Masks) (lines : List LineId) (facts : Masks) → AreAfter clues base lines facts
      → ¬ IsDeadInTurn clues base lines

-- A schedule that begins with a book which is a derivation leads to facts inside
-- all closed ones that hold the book's base, and to the least over the base where
-- no line can draw more. So all schedules that end there lead to the same facts.
pub record SchedulesFillBooks : Type 0 where
  pub inside : (clues : Clues) (book : Account) (lines : List LineId) (facts : Masks) → IsAccount book
      → IsDerivation clues book → All (HasLine book.facts) lines → AreAfter clues book.facts lines facts
      → (others : Masks) → IsClosed clues others → IsWithin book.base others → IsWithin facts others
  pub least : (clues : Clues) (book : Account) (lines : List LineId) (facts : Masks) → IsAccount book
      → IsDerivation clues book → All (HasLine book.facts) lines → AreAfter clues book.facts lines facts
      → IsClosed clues facts → IsLeast clues book.base facts
  pub order : (clues : Clues) (book : Account) (lines more : List LineId) (facts others : Masks) → IsAccount book
      → IsDerivation clues book → All (HasLine book.facts) lines → All (HasLine book.facts) more
      → AreAfter clues book.facts lines facts → AreAfter clues book.facts more others → IsClosed clues facts
      → IsClosed clues others → facts ≡ others
