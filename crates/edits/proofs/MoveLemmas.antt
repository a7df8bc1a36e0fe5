-- Givens that move with their lines: one cell more, and the marks that they get.
use Rattle.std.proofs.Common.{◌≡◌, ◌≢◌, ℕ, ◌+◌, ◌<◌, ◌≤◌, List, arith}
use Rattle.picture.specs.CellSet.{HasCell, PutsCell}
use Rattle.clues.specs.Change.{Moves}
use Rattle.edits.specs.MovedGivens.{AreMoved, AreMovedTo, mark_before}

pub none_moved : (old new : List ℕ) (back : Moves) (width : ℕ) → ((i j : ℕ) → HasCell new i j → ⊥) → AreMovedTo old new back width 0 0
none_moved old new back width none = record {
  only = λ i j has. absurd (none i j has);
  so_far = λ i j has. absurd (none i j has);
  all = λ i j below. absurd (omega arith);
  here = λ j below. absurd (omega arith);
}

pub cell_put : (old now new : List ℕ) (back : Moves) (width row col : ℕ) → col < width → AreMovedTo old now back width row col → PutsCell now new row col → mark_before old back row col ≡ 1
    → AreMovedTo old new back width row (col + 1)
cell_put old now new back width row col in_columns moved puts one = grind arith

pub cell_left : (old now : List ℕ) (back : Moves) (width row col : ℕ) → AreMovedTo old now back width row col → mark_before old back row col ≢ 1 → AreMovedTo old now back width row (col + 1)
cell_left old now back width row col moved other = grind arith

pub row_moved : (old now : List ℕ) (back : Moves) (width row col : ℕ) → AreMovedTo old now back width row col → width ≤ col → AreMovedTo old now back width (row + 1) 0
row_moved old now back width row col moved end = grind arith

pub all_moved : (old now : List ℕ) (back : Moves) (height width row : ℕ) → row ≡ height → AreMovedTo old now back width row 0 → AreMoved old now back height width
all_moved old now back height width row end moved = grind arith

pub ruleset moving = (none_moved, cell_put, cell_left, row_moved, all_moved)
