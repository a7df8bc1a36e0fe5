-- A document audited by line logic.
use Rattle.std.specs.Prelude.{◌≡◌, ℕ, ◌<◌, ◌↔◌, List, ◌++◌, length}
use Rattle.line_facts.specs.Masks.{Masks}
use Rattle.picture.specs.LineSet.{Lines}
use Rattle.picture.specs.Rows.{cell_at, width_of}
use Rattle.clues.specs.Change.{Moves}
use Rattle.clues.specs.ClueBook.{Clues, clues_of}
use Rattle.line_facts.specs.declared.meter.Meter.{Meter}
use Rattle.line_facts.specs.Counts.{Counts}
use Rattle.line_facts.specs.FactSets.{IsLeast, Leaves, SameShape}
use Rattle.edits.specs.Design.{Design}
use Rattle.justify.specs.declared.step.Step.{Step}
use Rattle.justify.specs.Book.{Account, AreTrimmed, IsAccount, IsDerivation}
use Rattle.retract.specs.Dirty.{AreDirty}
use Rattle.retract.specs.StandingSteps.{AreStanding}
use Rattle.fixpoint.specs.ClosedFacts.{EachFits}
use Rattle.propagate.specs.ClosingBooks.{SufficeToClose}
use Rattle.fixpoint.specs.Fillings.{LeavesPicture}
use Rattle.fixpoint.specs.LineNames.{AllLines}

-- What the givens alone exclude: in a given, whose mark is 1, every
-- colour but the picture's, and elsewhere none of the sixteen.
pub record AreGivens (d : Design) (base : Masks) : Type 0 where
  pub same_shape : SameShape d.rows base
  pub left : (row col k : ℕ) → row < length d.rows → col < width_of d.rows
      → Leaves base row col k ↔ ((k < 16) × (cell_at d.marks row col ≡ 1 → k ≡ cell_at d.rows row col))

-- facts that exclude just what the givens of a document exclude, and leave each colour of its picture
pub record IsBaseFor (d : Design) (base : Masks) : Type 0 where
  pub givens : AreGivens d base
  pub leaves : LeavesPicture d.rows base

-- The clues are those of the document's picture. The base of the book is what the givens exclude,
-- and its facts, the map, are the least ones closed under line deductions that hold the base;
-- some list fits each line under them. The book is a derivation from the clues: each step's line
-- forces what the step draws from the step's premises, of which none can be left out.
pub record IsAuditOf (d : Design) (clues : Clues) (book : Account) : Type 0 where
  pub clues_are : clues ≡ clues_of d.rows
  pub givens : AreGivens d book.base
  pub map : IsLeast clues book.base book.facts
  pub fits : EachFits clues book.facts
  pub account : IsAccount book
  pub derivation : IsDerivation clues book
  pub trimmed : AreTrimmed clues book

-- ---- the work

-- a meter that has counted nothing
abbrev pub nothing_done : Meter
nothing_done = record { evaluations = 0; trials = 0 }

-- Some evaluations, counted alike by the meter and the engine, close a book over lines that wait, with steps added.
-- There are no trials.
pub record ClosesBy (waiting : Lines) (added : List Step) (start end : Meter) (before after : ℕ) : Type 0 where
  pub evaluations : ℕ
  pub counts : Counts evaluations 0 start end before after
  pub suffice : SufficeToClose waiting added evaluations

-- the work of an audit made from scratch: all lines wait, and each step is added
pub record IsAnew (base : Masks) (book : Account) (start end : Meter) (before after : ℕ) : Type 0 where
  pub lines : Lines
  pub all_lines : AllLines base lines
  pub work : ClosesBy lines book.steps start end before after

-- The work of an audit that goes on from an old one. The steps that are still valid are kept and come first in the new
-- book; the dirty lines wait; the other steps are added.
pub record GoesOn (moves : Moves) (old new : Clues) (before after : Account) (start end : Meter)
    (calls_before calls_after : ℕ) : Type 0 where
  pub kept : Account
  pub is_account : IsAccount kept
  pub over : kept.base ≡ after.base
  pub standing : AreStanding moves old new after.base before.steps kept.steps
  pub added : List Step
  pub steps : after.steps ≡ kept.steps ++ added
  pub dirty : Lines
  pub are_dirty : AreDirty moves old new before.facts kept.facts dirty
  pub work : ClosesBy dirty added start end calls_before calls_after
