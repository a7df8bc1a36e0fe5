-- A board: the facts at hand and those that wait, and for each how many cells have a colour other than the picture's.
use Rattle.std.specs.Prelude.{◌≡◌, ℕ, List, [], ◌∷◌, map, Bool, true, false}
use Rattle.line_facts.specs.FactSets.{IsClosedLine, SameShape}
use Rattle.line_facts.specs.Masks.{Masks}
use Rattle.picture.specs.LineSet.{HasName, Lines, TakesOutName}
use Rattle.picture.specs.Rows.{line_of, Rows}
use Rattle.picture.specs.declared.line_id.LineId.{LineId}
use Rattle.trail.specs.Through.{across, down}
use Rattle.clues.specs.ClueBook.{clue_at, clues_of}
use Rattle.cert_check.specs.Strays.{strays_of}

-- the facts at hand and those that wait, the numbers that are kept for them, the lines that are known to be settled,
-- and how many parts may still be made that leave nothing on one side
pub record Boarded : Type 0 where
  pub at_hand : List (List ℕ)
  pub behind : List (List (List ℕ))
  pub strays : ℕ
  pub waits : List ℕ
  pub settled : Lines
  pub parts : ℕ

abbrev pub boarded : List (List ℕ) → List (List (List ℕ)) → ℕ → List ℕ → Lines → ℕ → Boarded
boarded at_hand behind strays waits settled parts =
    record { at_hand = at_hand; behind = behind; strays = strays; waits = waits; settled = settled; parts = parts }

-- these lines are settled: they force nothing more
abbrev pub AreSettled : Rows → Masks → Lines → Type 0
AreSettled picture facts lines =
    (line : LineId) → HasName lines line → IsClosedLine (clue_at (clues_of picture) line) (line_of facts line)

-- the lines that are not through a cell stay among those that are settled
abbrev pub KeepsOthers : Lines → Lines → ℕ → ℕ → Type 0
KeepsOthers old new row col =
    (line : LineId) → HasName old line → (line ≡ across row → ⊥) → (line ≡ down col → ⊥) → HasName new line

-- the lines through a cell are no longer among those that are settled
abbrev pub UnsettlesCell : Lines → Lines → ℕ → ℕ → Type 0
UnsettlesCell old new row col =
    (fewer : Lines) × (TakesOutName old fewer (across row) × TakesOutName fewer new (down col))

-- the numbers are right, the facts have the picture's shape, and the lines that are named are settled
pub record IsTallied (picture : Rows) (board : Boarded) : Type 0 where
  pub same_shape : SameShape picture board.at_hand
  pub strays : board.strays ≡ strays_of picture board.at_hand
  pub waits : board.waits ≡ map (strays_of picture) board.behind
  pub settled : AreSettled picture board.at_hand board.settled

-- the branches that are still to be proved, the one at hand first; none where the walk is over
abbrev pub waiting : Bool → Boarded → List (List (List ℕ))
waiting true board = board.at_hand ∷ board.behind
waiting false board = []
