-- Facts closed line by line.
use Rattle.std.specs.Prelude.{◌≡◌, ℕ, zero, suc, ◌+◌, ◌<◌, ◌≤◌, ◌⊎◌, ◌↔◌, ◌==◌, cond, List, length, slice_index}
use Rattle.line_facts.specs.Masks.{Masks}
use Rattle.picture.specs.declared.line_id.LineId.{LineId}
use Rattle.picture.specs.LineSet.{Lines, HasName, name_count}
use Rattle.picture.specs.Rows.{width_of, line_of, HasLine}
use Rattle.clues.specs.declared.block.Block.{Block}
use Rattle.clues.specs.ClueBook.{Clues, clue_at}
use Rattle.line_facts.specs.declared.line_engine.Outcome.{Outcome}
use Rattle.line_facts.specs.declared.line_engine.Outcome.TheVariants.{Narrowed, Dead}
use Rattle.line_facts.specs.declared.meter.Meter.{Meter}
use Rattle.line_facts.specs.Counts.{Counts}
use Rattle.line_facts.specs.CrossedLines.{CrossesChange}
use Rattle.line_facts.specs.Fits.{CanFit}
pub use Rattle.line_facts.specs.Outside.{EachFits, EachOutside}
use Rattle.line_facts.specs.FactSets.{IsClosedLine, IsClosed, IsLeast, IsWithin, Gains}

-- the facts have the sizes of the clues, and no line of theirs is longer than an engine takes
pub record AreClosable (clues : Clues) (longest : ℕ) (facts : Masks) : Type 0 where
  pub rows : length facts ≡ length clues.rows
  pub columns : width_of facts ≡ length clues.columns
  pub wide : width_of facts ≤ longest
  pub tall : length facts ≤ longest

-- a quiet line: it forces nothing new, and some list fits it
pub record IsQuietLine (clue : List Block) (left : List ℕ) : Type 0 where
  pub closed : IsClosedLine clue left
  pub fits : CanFit clue left

-- each line but those of a set is quiet
abbrev pub QuietOutside : Clues → List (List ℕ) → Lines → Type 0
QuietOutside = EachOutside IsQuietLine

-- a line that no list fits under any closed facts that hold the base
pub record HasDeadLine (clues : Clues) (base : Masks) : Type 0 where
  pub line : LineId
  pub has : HasLine base line
  pub dead : (others : Masks) → IsClosed clues others → IsWithin base others
      → CanFit (clue_at clues line) (line_of others line) → ⊥

-- Narrowed leaves the least closed facts, and some list fits each line under them; Dead says that under them
-- some line has no list that fits. Either way the new facts lie inside all closed facts that hold the base.
pub record Closes (clues : Clues) (base facts : Masks) (outcome : Outcome) : Type 0 where
  pub holds : IsWithin base facts
  pub inside : (others : Masks) → IsClosed clues others → IsWithin base others → IsWithin facts others
  pub least : outcome ≡ Narrowed → IsLeast clues base facts
  pub fits : outcome ≡ Narrowed → EachFits clues facts
  pub dead : outcome ≡ Dead → HasDeadLine clues base

-- ---- what changes on a line

-- each line that is not named is as it was
abbrev pub KeepsOtherLines : Masks → Masks → Lines → Type 0
KeepsOtherLines old new lines = (line : LineId) → (HasName lines line → ⊥) → line_of new line ≡ line_of old line

abbrev pub change : ℕ → ℕ → ℕ
change before after = cond (before == after) 0 1

-- how many of the first n cells of a line differ
abbrev pub changes : List ℕ → List ℕ → ℕ → ℕ
changes before after zero = 0
changes before after (suc n) = changes before after n + change (slice_index before n) (slice_index after n)

-- the lines that cross a line where one of its cells differs are put into a set
pub record PutsCrossing (line : LineId) (before after : List ℕ) (old new : Lines) : Type 0 where
  pub names : (other : LineId) → HasName new other ↔ (HasName old other ⊎ CrossesChange line before after other)
  pub at_least : name_count old ≤ name_count new
  pub at_most : name_count new ≤ name_count old + changes before after (length before)

-- ---- the work

-- one line is evaluated, and `cells` of its cells change
pub record Evaluates (clues : Clues) (old new : Masks) (cells : ℕ) : Type 0 where
  pub line : LineId
  pub has : HasLine old line
  pub outcome : Outcome
  pub gains : Gains (clue_at clues line) line old new outcome
  pub draws : cells ≡ changes (line_of old line) (line_of new line) (length (line_of old line))

-- a number of evaluations lead from the old facts to the new ones, and `cells` cells
-- change in them, each counted once for every evaluation that changes it
abbrev pub Draws : Clues → Masks → Masks → ℕ → ℕ → Type 0
Draws clues old new zero cells = (old ≡ new) × (cells ≡ 0)
Draws clues old new (suc n) cells =
    (between : Masks) × ((before : ℕ) × ((last : ℕ)
    × (Draws clues old between n before × (Evaluates clues between new last × (cells ≡ before + last)))))

-- a meter that has counted evaluations, and no trial
abbrev pub evaluated : ℕ → Meter
evaluated count = record { evaluations = count; trials = 0 }

-- The evaluations of closing: at most one for each line of the set and each change of a cell, and at least one
-- for each line of the set where the outcome is Narrowed. Where the set has a line, at least one is evaluated.
pub record Works (clues : Clues) (dirty : Lines) (base facts : Masks) (outcome : Outcome) (old new : Meter)
    (before after : ℕ) : Type 0 where
  pub evaluations : ℕ
  pub cells : ℕ
  pub counts : Counts evaluations 0 old new before after
  pub draws : Draws clues base facts evaluations cells
  pub at_most : evaluations ≤ name_count dirty + cells
  pub at_least : outcome ≡ Narrowed → name_count dirty ≤ evaluations
  pub some : 0 < name_count dirty → 0 < evaluations
