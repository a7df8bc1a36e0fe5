-- Pictures that facts allow.
use Rattle.std.specs.Prelude.{◌≡◌, ℕ, ◌^◌, ◌<◌, List, length, map}
use Rattle.line_facts.specs.Masks.{Masks}
use Rattle.picture.specs.Picture.{IsPicture}
use Rattle.picture.specs.Rows.{row_at, cell_at, Rows}
use Rattle.clues.specs.ClueBook.{Clues, clues_of}
use Rattle.line_facts.specs.FactSets.{Leaves, SameShape}

-- in each cell of the picture its colour is left
abbrev pub LeavesPicture : Rows → Masks → Type 0
LeavesPicture picture facts = (row col : ℕ) → col < length (row_at picture row)
    → Leaves facts row col (cell_at picture row col)

-- a picture that has the clues, and in each cell a colour that the facts leave
pub record Fills (clues : Clues) (facts : Masks) (picture : Rows) : Type 0 where
  pub is_picture : IsPicture picture
  pub same_shape : SameShape picture facts
  pub has_clues : clues_of picture ≡ clues
  pub leaves : LeavesPicture picture facts

-- the facts that leave only one picture: in each cell only its colour
unfoldable pub only : Rows → List (List ℕ)
only picture = map (λ (row : List ℕ). map (λ (colour : ℕ). 2 ^ colour) row) picture
