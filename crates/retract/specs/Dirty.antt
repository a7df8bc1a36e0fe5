-- The dirty lines of a new picture, which may exclude more.
use Rattle.std.specs.Prelude.{◌≡◌, ℕ, ◌<◌, ◌⊎◌, List, Some}
use Rattle.picture.specs.declared.line_id.Axis.{Axis}
use Rattle.picture.specs.declared.line_id.LineId.{LineId}
use Rattle.picture.specs.LineSet.{Lines, HasName}
use Rattle.picture.specs.Rows.{line_of, lines_along, HasLine}
use Rattle.clues.specs.Change.{Moves, Stays, image_of, lines_after, lines_before}
use Rattle.picture.specs.CrossingLines.{crossing}
use Rattle.clues.specs.ClueBook.{Clues, clue_at}
use Rattle.retract.specs.StandingSteps.{KeepsLength}

-- facts of the sizes before and after
pub record HaveFacts (moves : Moves) (before after : List (List ℕ)) : Type 0 where
  pub old_sizes : (axis : Axis) → lines_along axis before ≡ lines_before axis moves
  pub new_sizes : (axis : Axis) → lines_along axis after ≡ lines_after axis moves

-- each position along lines of an axis stays
abbrev pub AllStay : Moves → Axis → Type 0
AllStay moves axis = (i : ℕ) → i < lines_before (crossing axis) moves → Stays moves axis i

-- lines of an axis have as many cells as before, and each position along them stays
abbrev pub IsInPlace : Moves → Axis → Type 0
IsInPlace moves axis = KeepsLength moves axis × AllStay moves axis

-- a new line was an old line with the same clue, and the same is known of its cells
pub record SaysTheSame (moves : Moves) (old new : Clues) (before after : List (List ℕ)) (line : LineId) : Type 0 where
  pub from : LineId
  pub has_line : HasLine before from
  pub image : image_of moves from ≡ Some line
  pub same_clue : clue_at new line ≡ clue_at old from
  pub same_facts : line_of after line ≡ line_of before from

-- A new line is clean when it was an old line with the same length and the same clue, each position
-- along it stays, and the same is known of its cells now as before. Every other line is dirty.
pub record IsClean (moves : Moves) (old new : Clues) (before after : List (List ℕ)) (line : LineId) : Type 0 where
  pub in_place : IsInPlace moves line.axis
  pub says_the_same : SaysTheSame moves old new before after line

-- a line is dirty and named in the set, or is clean and not named there
abbrev pub IsDecided : Moves → Clues → Clues → List (List ℕ) → List (List ℕ) → Lines → LineId → Type 0
IsDecided moves old new before after dirty line =
    (HasName dirty line × (IsClean moves old new before after line → ⊥))
    ⊎ ((HasName dirty line → ⊥) × IsClean moves old new before after line)

-- the set has exactly the names of the dirty lines
pub record AreDirty (moves : Moves) (old new : Clues) (before after : List (List ℕ)) (dirty : Lines) : Type 0 where
  pub inside : (line : LineId) → HasName dirty line → HasLine after line
  pub decided : (line : LineId) → HasLine after line → IsDecided moves old new before after dirty line

-- the set has exactly the names of the dirty lines along one axis
pub record AreDirtyAlong (axis : Axis) (moves : Moves) (old new : Clues) (before after : List (List ℕ))
    (dirty : Lines) : Type 0 where
  pub inside : (line : LineId) → line.axis ≡ axis → HasName dirty line → HasLine after line
  pub decided : (line : LineId) → line.axis ≡ axis → HasLine after line
      → IsDecided moves old new before after dirty line
