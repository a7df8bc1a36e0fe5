-- Settled facts, the picture that they show, and the first cell that is not settled.
use Rattle.std.specs.Prelude.{◌≡◌, ℕ, ◌<◌, ◌⊎◌, List, Option, None, Some, [], ◌∷◌, length}
use Rattle.picture.specs.LineSet.{Lines, HasName}
use Rattle.picture.specs.Picture.{IsPicture}
use Rattle.picture.specs.Rows.{width_of, cell_at, Rows}
use Rattle.clues.specs.ClueBook.{Clues}
use Rattle.line_facts.specs.Masks.{IsOnly, Masks}
use Rattle.line_facts.specs.FactSets.{SameShape}
use Rattle.fixpoint.specs.Fillings.{Fills}
use Rattle.trail.specs.declared.cell.Cell.{Cell}
use Rattle.split_choice.specs.Choices.{IsUnsettled}
use Rattle.second_search.specs.Parts.{IsBefore}
use Rattle.second_search.specs.Through.{across}

-- in each cell just one colour is left
abbrev pub AreSettled : Masks → Type 0
AreSettled facts = (row col : ℕ) → row < length facts → col < width_of facts
    → (k : ℕ) × IsOnly (cell_at facts row col) k

-- in each cell of the first rows just one colour is left
abbrev pub AreRowsSettled : Masks → ℕ → Type 0
AreRowsSettled facts rows = (row col : ℕ) → row < rows → col < width_of facts
    → (k : ℕ) × IsOnly (cell_at facts row col) k

-- in each cell of the rows that are not named just one colour is left
abbrev pub AreOthersSettled : Lines → Masks → Type 0
AreOthersSettled rows facts = (row col : ℕ) → (HasName rows (across row) → ⊥) → row < length facts
    → col < width_of facts → (k : ℕ) × IsOnly (cell_at facts row col) k

-- in the rows that are not named only a picture's colours are left
abbrev pub ShowOthers : Rows → Lines → Masks → Type 0
ShowOthers picture rows facts = (row col : ℕ) → (HasName rows (across row) → ⊥) → row < length facts
    → col < width_of facts → IsOnly (cell_at facts row col) (cell_at picture row col)

-- The first cell in row order in which not exactly one colour is left. Where some list fits each line, no cell is
-- without a colour, so this is the first open cell.
pub record IsFirstUnsettled (facts : Masks) (cell : Cell) : Type 0 where
  pub is : IsUnsettled facts cell
  pub before : (r c : ℕ) → c < width_of facts → IsBefore r c cell.row cell.col → (k : ℕ) × IsOnly (cell_at facts r c) k

-- a picture that has in each cell the only colour left there
pub record Shows (facts : Masks) (picture : Rows) : Type 0 where
  pub is_picture : IsPicture picture
  pub same_shape : SameShape picture facts
  pub only : (row col : ℕ) → row < length facts → col < width_of facts
      → IsOnly (cell_at facts row col) (cell_at picture row col)

-- one row of a picture shows the facts, and the other rows are as they were
pub record ShowsRow (facts : Masks) (old new : Rows) (row : ℕ) : Type 0 where
  pub same_shape : SameShape new facts
  pub only : (col : ℕ) → col < width_of facts → IsOnly (cell_at facts row col) (cell_at new row col)
  pub elsewhere : (r col : ℕ) → (r ≡ row → ⊥) → cell_at new r col ≡ cell_at old r col

-- a picture fills some of the facts that wait
abbrev pub FillsSome : Clues → List Masks → Rows → Type 0
FillsSome clues [] picture = ⊥
FillsSome clues (facts ∷ others) picture = Fills clues facts picture ⊎ FillsSome clues others picture

-- a picture fills the facts and is not the known one, or none does
abbrev pub FindsFilling : Clues → Masks → Rows → Option Rows → Type 0
FindsFilling clues facts known None = (picture : Rows) → Fills clues facts picture → (picture ≡ known → ⊥) → ⊥
FindsFilling clues facts known (Some picture) = Fills clues facts picture × (picture ≡ known → ⊥)
