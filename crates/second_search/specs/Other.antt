-- What the finders answer: another picture, or a first one, or that there is none.
use Rattle.std.specs.Prelude.{◌≡◌, ℕ, List, Option, None, Some}
use Rattle.line_facts.specs.Masks.{Masks}
use Rattle.picture.specs.CellSet.{HasCell}
use Rattle.picture.specs.Picture.{IsPicture}
use Rattle.picture.specs.Rows.{cell_at, Rows}
use Rattle.clues.specs.ClueBook.{Clues, clues_of}
use Rattle.clues.specs.Solution.{IsOther, Solves}
use Rattle.line_facts.specs.FactSets.{Leaves, SameShape}
use Rattle.fixpoint.specs.Fillings.{LeavesPicture}

-- Facts that a search for another picture may start from: in a given they leave no colour but the picture's, and they
-- exclude nothing that a picture with the clues and the givens shows.
pub record AreSound (clues : Clues) (givens : List ℕ) (picture : Rows) (facts : Masks) : Type 0 where
  pub same_shape : SameShape picture facts
  pub hold_givens : (row col k : ℕ) → HasCell givens row col → Leaves facts row col k → k ≡ cell_at picture row col
  pub leave : (other : Rows) → Solves clues (HasCell givens) picture other → LeavesPicture other facts

-- another picture was found, or there is none
abbrev pub FindsOther : Clues → List ℕ → Rows → Option Rows → Type 0
FindsOther clues givens picture None = (other : Rows) → IsOther clues (HasCell givens) picture other → ⊥
FindsOther clues givens picture (Some other) = IsOther clues (HasCell givens) picture other

-- a picture with these clues
pub record HasClues (clues : Clues) (picture : Rows) : Type 0 where
  pub is_picture : IsPicture picture
  pub has_clues : clues_of picture ≡ clues

-- a picture with these clues was found, or there is none
abbrev pub FindsFirst : Clues → Option Rows → Type 0
FindsFirst clues None = (picture : Rows) → HasClues clues picture → ⊥
FindsFirst clues (Some picture) = HasClues clues picture
