-- Laws of the least closed facts, and of pictures that facts allow.
use Rattle.std.specs.Prelude.{◌≡◌, ℕ, ◌+◌, ◌<◌, ◌↔◌, length}
use Rattle.line_facts.specs.Masks.{Masks}
use Rattle.picture.specs.Picture.{IsPicture}
use Rattle.picture.specs.LineSet.{Lines, name_count}
use Rattle.picture.specs.Rows.{row_at, cell_at, width_of, Rows}
use Rattle.clues.specs.ClueBook.{Clues, clues_of}
use Rattle.line_facts.specs.declared.line_engine.Outcome.{Outcome}
use Rattle.line_facts.specs.FactSets.{IsClosed, IsLeast, IsWithin, Leaves, SameShape}
use Rattle.fixpoint.specs.ClosedFacts.{Closes, HasDeadLine}
use Rattle.fixpoint.specs.Fillings.{Fills, LeavesPicture, only}
use Rattle.fixpoint.specs.LineNames.{AllLines}

-- a set with the names of all lines has one for each row and each column
abbrev pub AllNamesAreCounted : Type 0
AllNamesAreCounted = (facts : Masks) (lines : Lines) → AllLines facts lines
    → name_count lines ≡ length facts + width_of facts

-- where the base leaves the colours of a picture that has the clues, so do the least closed facts
abbrev pub PictureStays : Type 0
PictureStays = (picture : Rows) (base facts : Masks) → IsPicture picture → SameShape picture base
    → LeavesPicture picture base → IsLeast (clues_of picture) base facts → LeavesPicture picture facts

-- The facts that leave only a picture: in each of its cells they leave the picture's colour and no other; they are
-- closed for its clues; and other facts leave the picture exactly where these exclude all that those exclude.
pub record OnlyIsClosed : Type 0 where
  pub same_shape : (picture : Rows) → SameShape picture (only picture)
  pub leaves : (picture : Rows) (row col k : ℕ)
      → Leaves (only picture) row col k ↔ ((col < length (row_at picture row)) × (k ≡ cell_at picture row col))
  pub closed : (picture : Rows) → IsPicture picture → IsClosed (clues_of picture) (only picture)
  pub within : (picture : Rows) (facts : Masks) → SameShape picture facts
      → LeavesPicture picture facts ↔ IsWithin facts (only picture)

-- Closing neither loses nor adds a picture: a picture fills the facts before closing exactly if it fills those after.
-- Where some line is dead, as Dead says, no picture fills the facts before.
pub record ClosingKeepsFillings : Type 0 where
  pub stays : (clues : Clues) (base facts : Masks) (outcome : Outcome) (picture : Rows)
      → Closes clues base facts outcome → Fills clues base picture ↔ Fills clues facts picture
  pub least : (clues : Clues) (base facts : Masks) (picture : Rows) → IsLeast clues base facts
      → Fills clues base picture ↔ Fills clues facts picture
  pub none_where_dead : (clues : Clues) (base : Masks) (picture : Rows) → HasDeadLine clues base
      → Fills clues base picture → ⊥
