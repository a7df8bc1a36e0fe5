-- The steps of a book that stand after a change.
use Rattle.std.specs.Prelude.{◌≡◌, ℕ, ◌<◌, ◌⊎◌, ◌↔◌, List, [], ◌∷◌, ◌++◌, length, Some, IsBitSet}
use Rattle.line_facts.specs.Masks.{Masks}
use Rattle.picture.specs.declared.line_id.Axis.{Axis}
use Rattle.picture.specs.declared.line_id.LineId.{LineId}
use Rattle.clues.specs.Change.{Moves, Stays, image_of, lines_after, lines_before}
use Rattle.picture.specs.CrossingLines.{crossing}
use Rattle.picture.specs.LineSet.{Lines, HasName}
use Rattle.clues.specs.ClueBook.{Clues, clue_at, clues_along}
use Rattle.line_facts.specs.FactSets.{Excludes, row_on, col_on}
use Rattle.justify.specs.declared.premise.Premise.{Premise}
use Rattle.justify.specs.declared.step.Step.{Step}
use Rattle.justify.specs.Premises.{Mentions, Says}
use Rattle.justify.specs.Book.{IsKnownBefore}

-- clue books of the sizes before and after
pub record HaveBooks (moves : Moves) (old new : Clues) : Type 0 where
  pub before : (axis : Axis) → length (clues_along axis old) ≡ lines_before axis moves
  pub after : (axis : Axis) → length (clues_along axis new) ≡ lines_after axis moves

-- lines of an axis have as many cells as before
abbrev pub KeepsLength : Moves → Axis → Type 0
KeepsLength moves axis = lines_before (crossing axis) moves ≡ lines_after (crossing axis) moves

-- each cell that premises mention keeps its place along lines of an axis
abbrev pub StayInPlace : Moves → Axis → List Premise → Type 0
StayInPlace moves axis premises = (i : ℕ) → Mentions premises i → Stays moves axis i

-- all that premises say holds on a line
abbrev pub AreKnown : (ℕ → ℕ → ℕ → Type 0) → LineId → List Premise → Type 0
AreKnown Known line premises = (i k : ℕ) → Says premises i k
    → Known (row_on line.axis line.at i) (col_on line.axis line.at i) k

-- in the cell at a place of a line each colour of a mask is excluded
abbrev pub ExcludesAll : Masks → LineId → ℕ → ℕ → Type 0
ExcludesAll facts line place colours =
    (k : ℕ) → IsBitSet colours k → Excludes facts (row_on line.axis line.at place) (col_on line.axis line.at place) k

-- A step stands on a line of the new picture, where these exclusions are known. The step's old line is now that line,
-- with the same length and the same clue. Each cell that the step mentions keeps its place along it, and each premise
-- is known there.
pub record Stands (moves : Moves) (old new : Clues) (Known : ℕ → ℕ → ℕ → Type 0) (step : Step)
    (to : LineId) : Type 0 where
  pub image : image_of moves step.line ≡ Some to
  pub same_length : KeepsLength moves step.line.axis
  pub same_clue : clue_at new to ≡ clue_at old step.line
  pub premises_stay : StayInPlace moves step.line.axis step.premises
  pub drawn_stay : StayInPlace moves step.line.axis step.drawn
  pub premises_known : AreKnown Known to step.premises

-- an old line is still a line of the new picture, with the same clue
pub record KeepsClue (moves : Moves) (old new : Clues) (line : LineId) : Type 0 where
  pub to : LineId
  pub image : image_of moves line ≡ Some to
  pub same_clue : clue_at new to ≡ clue_at old line

-- among the old lines, a set names exactly those that keep their clues
abbrev pub HaveSameClues : Moves → Clues → Clues → Lines → Type 0
HaveSameClues moves old new same = (line : LineId) → line.at < lines_before line.axis moves
    → HasName same line ↔ KeepsClue moves old new line

-- a line is one of the first `count` along an axis and keeps its clue
pub record KeepsClueAlong (moves : Moves) (old new : Clues) (axis : Axis) (count : ℕ) (line : LineId) : Type 0 where
  pub along : line.axis ≡ axis
  pub near : line.at < count
  pub keeps : KeepsClue moves old new line

-- the names of these lines are put into a set
abbrev pub PutsSame : Moves → Clues → Clues → Axis → ℕ → Lines → Lines → Type 0
PutsSame moves old new axis count before after =
    (line : LineId) → HasName after line ↔ (HasName before line ⊎ KeepsClueAlong moves old new axis count line)

-- the step, moved to another line
abbrev pub moved : Step → LineId → Step
moved step to = record step { line = to }

-- `all` has the steps that were kept so far, and then those of the remaining steps that stand, in order, each moved to
-- its new line. A premise is known where it is in the base, or a step that was kept before draws it.
unfoldable pub Leave : Moves → Clues → Clues → Masks → List Step → List Step → List Step → Type 0
Leave moves old new base [] kept all = all ≡ kept
Leave moves old new base (step ∷ steps) kept all =
    ((to : LineId) × Stands moves old new (IsKnownBefore base kept (length kept)) step to
    × Leave moves old new base steps (kept ++ moved step to ∷ []) all)
    ⊎ (((to : LineId) → Stands moves old new (IsKnownBefore base kept (length kept)) step to → ⊥)
    × Leave moves old new base steps kept all)

-- the steps of a book that stand after a change
abbrev pub AreStanding : Moves → Clues → Clues → Masks → List Step → List Step → Type 0
AreStanding moves old new base steps all = Leave moves old new base steps [] all
