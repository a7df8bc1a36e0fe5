-- A run of line logic: turns of the lines in rounds, and the looks that they lead to.
use Rattle.std.specs.Prelude.{◌≡◌, ℕ, zero, suc, ◌+◌, List, [], ◌∷◌, length, nat_lt, if◌then◌else◌}
use Rattle.line_facts.specs.Masks.{Masks}
use Rattle.picture.specs.declared.line_id.Axis.{Axis}
use Rattle.picture.specs.declared.line_id.Axis.TheVariants.{Across, Down}
use Rattle.picture.specs.declared.line_id.LineId.{LineId}
use Rattle.picture.specs.Rows.{width_of, HasLine}
use Rattle.clues.specs.ClueBook.{Clues, clue_at}
use Rattle.line_facts.specs.declared.line_engine.Outcome.{Outcome}
use Rattle.line_facts.specs.FactSets.{Gains}
use Rattle.grade.specs.declared.turn.Turn.{Turn}
use Rattle.grade.specs.Looks.{HasOpenCell, IsDue, Look}

-- the turn of a line in a round
abbrev pub turn_of : ℕ → Axis → ℕ → Turn
turn_of round axis at = record { round = round; line = record { axis = axis; at = at } }

-- rounds are counted from 1, and each goes through all rows from the top, and then all columns from the left
abbrev pub first_turn : Turn
first_turn = turn_of 1 Across 0

abbrev pub turn_after : Masks → ℕ → Axis → ℕ → Turn
turn_after facts round Across at =
    if nat_lt (at + 1) (length facts) then turn_of round Across (at + 1) else turn_of round Down 0
turn_after facts round Down at =
    if nat_lt (at + 1) (width_of facts) then turn_of round Down (at + 1) else turn_of (round + 1) Across 0

-- the turn that follows one
abbrev pub next_turn : Masks → Turn → Turn
next_turn facts turn = turn_after facts turn.round turn.line.axis turn.line.at

-- whose turn is next, the facts, and the looks so far, the newest first
pub record Stage : Type 0 where
  pub turn : Turn
  pub facts : Masks
  pub looks : List Look

abbrev pub stage : Turn → Masks → List Look → Stage
stage turn facts looks = record { turn = turn; facts = facts; looks = looks }

-- the look at a line in its turn, which leads from some facts to others
abbrev pub look_in : Turn → Masks → Masks → Look
look_in turn before after = record { line = turn.line; round = turn.round; before = before; after = after }

-- a line is looked at in its turn exactly if it is due and has an open cell
abbrev pub IsLookedAt : Masks → List Look → LineId → Type 0
IsLookedAt facts looks line = IsDue looks line × HasOpenCell facts line

-- a look excludes all that its line forces, and nothing elsewhere
pub record LooksAt (clues : Clues) (old new : Stage) : Type 0 where
  pub outcome : Outcome
  pub gains : Gains (clue_at clues old.turn.line) old.turn.line old.facts new.facts outcome
  pub noted : new.looks ≡ look_in old.turn old.facts new.facts ∷ old.looks

-- a turn that leads to no look leaves facts and looks as they are
pub record PassesBy (old new : Stage) : Type 0 where
  pub same_facts : new.facts ≡ old.facts
  pub same_looks : new.looks ≡ old.looks

-- one turn
pub record TakesTurn (clues : Clues) (old new : Stage) : Type 0 where
  pub next : new.turn ≡ next_turn old.facts old.turn
  pub looks : IsLookedAt old.facts old.looks old.turn.line → LooksAt clues old new
  pub passes : (IsLookedAt old.facts old.looks old.turn.line → ⊥) → PassesBy old new

-- the stage after some turns, from the first turn of the first round on
abbrev pub IsAfter : Clues → Masks → ℕ → Stage → Type 0
IsAfter clues start zero new = new ≡ stage first_turn start []
IsAfter clues start (suc turns) new =
    (old : Stage) × (IsAfter clues start turns old × TakesTurn clues old new)

-- no line is due and has an open cell: a further round looks at no line
abbrev pub IsQuiet : Masks → List Look → Type 0
IsQuiet facts looks = (line : LineId) → HasLine facts line → IsLookedAt facts looks line → ⊥

-- A run leads from its start by these looks, the newest first, to its end, where a further round would look at no line.
pub record IsRun (clues : Clues) (start : Masks) (looks : List Look) (end : Masks) : Type 0 where
  pub turns : ℕ
  pub turn : Turn
  pub reached : IsAfter clues start turns (stage turn end looks)
  pub quiet : IsQuiet end looks
