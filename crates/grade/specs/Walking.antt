-- How far a walk through the turns of a run has come: what it knows of the lines that are due.
use Rattle.std.specs.Prelude.{◌≡◌, ◌≢◌, ℕ, zero, suc, ◌+◌, ◌*◌, ◌^◌, ◌<◌, ◌≤◌, List, ◌∷◌, Option, None, Some}
use Rattle.line_facts.specs.Masks.{Masks}
use Rattle.picture.specs.declared.line_id.Axis.{Axis}
use Rattle.picture.specs.declared.line_id.Axis.TheVariants.{Across, Down}
use Rattle.picture.specs.declared.line_id.LineId.{LineId}
use Rattle.picture.specs.LineSet.{Lines, IsFirstBit, HasName, mask_along}
use Rattle.picture.specs.Rows.{line_of, HasLine}
use Rattle.clues.specs.ClueBook.{Clues}
use Rattle.fixpoint.specs.LeftToDo.{left_to_do}
use Rattle.fixpoint.specs.LineNames.{AreLinesOf}
use Rattle.grade.specs.declared.turn.Turn.{Turn}
use Rattle.grade.specs.declared.seen.Seen.{Seen}
use Rattle.grade.specs.declared.walk.Walk.{Walk}
use Rattle.grade.specs.Looks.{IsDue, Look}
use Rattle.grade.specs.Runs.{IsAfter, IsLookedAt, IsRun, look_in, next_turn, stage, turn_of}

-- ---- turns that pass by

-- the first turn along the other axis
abbrev pub turn_over : ℕ → Axis → Turn
turn_over round Across = turn_of round Down 0
turn_over round Down = turn_of (round + 1) Across 0

-- the first turn from one on, along the same axis and in the same round, whose line waits
pub record IsFirstAlong (due : Lines) (from to : Turn) : Type 0 where
  pub round : to.round ≡ from.round
  pub axis : to.line.axis ≡ from.line.axis
  pub first : IsFirstBit (mask_along from.line.axis due) from.line.at to.line.at

-- a number of turns lead from one to another, and none of them is of a line that waits
abbrev pub Passes : Masks → Lines → ℕ → Turn → Turn → Type 0
Passes facts due zero from to = to ≡ from
Passes facts due (suc n) from to = ¬ HasName due from.line × Passes facts due n (next_turn facts from) to

-- the first turn from one on whose line waits
pub record IsNextWaiting (facts : Masks) (due : Lines) (from to : Turn) : Type 0 where
  pub waits : HasName due to.line
  pub turns : ℕ
  pub passes : Passes facts due turns from to
  pub round : to.round ≤ from.round + 1

-- ---- a walk

-- a walk that can go on: the lines that wait are lines of the facts, as is the one whose turn is next
pub record CanWalk (facts : Masks) (walk : Walk) : Type 0 where
  pub lines : AreLinesOf facts walk.due
  pub has_turn : HasLine facts walk.turn.line
  pub room : walk.turn.round + 2 * left_to_do facts walk.due < 2 ^ 32

-- each line that waits is due, and each that is due and has an open cell waits
pub record Waits (facts : Masks) (looks : List Look) (due : Lines) : Type 0 where
  pub are_due : (line : LineId) → HasName due line → IsDue looks line
  pub each : (line : LineId) → HasLine facts line → IsLookedAt facts looks line → HasName due line

-- a walk that has come through some turns, with these looks, to these facts
pub record Walks (clues : Clues) (start : Masks) (looks : List Look) (facts : Masks) (walk : Walk) : Type 0 where
  pub turns : ℕ
  pub reached : IsAfter clues start turns (stage walk.turn facts looks)
  pub waits : Waits facts looks walk.due

-- a line is to be looked at in its turn, and the walk has gone on to the next turn
pub record IsAbout (clues : Clues) (start : Masks) (looks : List Look) (facts : Masks) (turn : Turn) (walk : Walk)
    : Type 0 where
  pub turns : ℕ
  pub reached : IsAfter clues start turns (stage turn facts looks)
  pub looked : IsLookedAt facts looks turn.line
  pub next : walk.turn ≡ next_turn facts turn
  pub due : (line : LineId) → HasName walk.due line → IsDue looks line
  pub each : (line : LineId) → HasLine facts line → line ≢ turn.line → IsLookedAt facts looks line
      → HasName walk.due line

-- a line is about to be looked at, or the run is over
abbrev pub ComesToLook : Clues → Masks → List Look → Masks → Walk → Option Turn → Type 0
ComesToLook clues start looks facts walk None = IsRun clues start looks facts
ComesToLook clues start looks facts walk (Some turn) = IsAbout clues start looks facts turn walk

-- what is seen where some facts lead to others in a turn: the masks of the line's cells before and after
abbrev pub seen_in : Turn → Masks → Masks → Seen
seen_in turn before after = record {
  turn = turn;
  before = line_of before turn.line;
  after = line_of after turn.line;
}

-- the next look of a run is seen; or the run is over, and nothing changes
abbrev pub Looks : Clues → Masks → List Look → Masks → Masks → Walk → Option Seen → Type 0
Looks clues start looks old new walk None = IsRun clues start looks new
Looks clues start looks old new walk (Some seen) =
    (seen ≡ seen_in seen.turn old new) × Walks clues start (look_in seen.turn old new ∷ looks) new walk
