-- What holds of the lines of facts: of all, or of those that a set does not name.
use Rattle.std.specs.Prelude.{ℕ, List}
use Rattle.line_facts.specs.Masks.{Masks}
use Rattle.picture.specs.declared.line_id.LineId.{LineId}
use Rattle.picture.specs.LineSet.{Lines, HasName}
use Rattle.picture.specs.Rows.{line_of, HasLine}
use Rattle.clues.specs.declared.block.Block.{Block}
use Rattle.clues.specs.ClueBook.{Clues, clue_at}
use Rattle.line_facts.specs.Fits.{CanFit}

-- something holds of each line that a set does not name: of its clue, and of the masks of what is left in its cells
abbrev pub EachOutside : (List Block → List ℕ → Type 0) → Clues → Masks → Lines → Type 0
EachOutside Holds clues facts lines =
    (line : LineId) → HasLine facts line → (HasName lines line → ⊥) → Holds (clue_at clues line) (line_of facts line)

-- some list fits each line
abbrev pub EachFits : Clues → Masks → Type 0
EachFits clues facts = (line : LineId) → HasLine facts line → CanFit (clue_at clues line) (line_of facts line)
