-- Closed lines, by what they force.
use Rattle.std.specs.Prelude.{ℕ, ◌↔◌, List, IsBitSet, slice_index}
use Rattle.clues.specs.declared.block.Block.{Block}
use Rattle.clues.specs.Clue.{IsClue}
use Rattle.line_facts.specs.Fits.{Forces}
use Rattle.line_facts.specs.FactSets.{IsClosedLine}

-- a line is closed exactly when no cell has a colour left whose exclusion the line forces
abbrev pub ClosedLinesHoldWhatTheyForce : Type 0
ClosedLinesHoldWhatTheyForce = (clue : List Block) (left : List ℕ) → IsClue clue
    → IsClosedLine clue left ↔ ((i k : ℕ) → Forces clue left i k → IsBitSet (slice_index left i) k → ⊥)
