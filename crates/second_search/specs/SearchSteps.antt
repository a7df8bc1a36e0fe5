-- One look at the current facts (`at_hand`), in a search that counts its splits.
use Rattle.std.specs.Prelude.{◌≡◌, ℕ, suc, ◌⊎◌, Option, None, Some, ◌++◌}
use Rattle.line_facts.specs.Masks.{Masks}
use Rattle.picture.specs.Rows.{cell_at, Rows}
use Rattle.clues.specs.ClueBook.{Clues}
use Rattle.trail.specs.declared.cell.Cell.{Cell}
use Rattle.line_facts.specs.Branches.{branches}
use Rattle.second_search.specs.declared.coming.Coming.TheVariants.{Dies, Ends, Splits}
use Rattle.second_search.specs.declared.counting.Budget.{Budget}
use Rattle.second_search.specs.declared.counting.Ending.{Ending}
use Rattle.second_search.specs.declared.counting.Ending.TheVariants.{Nothing, Found, BrokenOff}
use Rattle.trail.specs.Trail.{Trailed, places, trail_of}
use Rattle.second_search.specs.FixedOrder.{Comes, raised}

-- what is left of an allowance after one more split
abbrev pub IsOneLess : Option ℕ → Option ℕ → Type 0
IsOneLess None new = new ≡ None
IsOneLess (Some n) new = (m : ℕ) × ((n ≡ suc m) × (new ≡ Some m))

-- one split is subtracted from what is left of an allowance, and counted; or none is left
abbrev pub Spends : Budget → Option Budget → Type 0
Spends old None = old.left ≡ Some 0
Spends old (Some new) = IsOneLess old.left new.left × (new.splits ≡ raised old.splits 1)

-- a picture is the known one, and nothing is found; or it is another, which is found
abbrev pub Compares : Rows → Rows → Option Ending → Type 0
Compares known picture None = picture ≡ known
Compares known picture (Some Nothing) = ⊥
Compares known picture (Some (Found other)) = (other ≡ picture) × (picture ≡ known → ⊥)
Compares known picture (Some BrokenOff) = ⊥

-- the current facts, when closed, have a first open cell, and are split there
pub record SplitsAt (clues : Clues) (old new : Trailed) : Type 0 where
  pub settled : Masks
  pub cell : Cell
  pub comes : Comes clues old.at_hand (Splits settled cell)
  pub new_is : new ≡ trail_of settled (branches settled cell.row cell.col (cell_at settled cell.row cell.col)
      ++ old.behind) (places cell.row cell.col (cell_at settled cell.row cell.col) ++ old.cells)

-- What a look at the current facts led to: they hold no other picture, or were split so that their branches
-- wait, and the search goes on; or another picture was found; or they need a split, and none is left.
abbrev pub Steps : Clues → Rows → Trailed → Trailed → Budget → Budget → Option Ending → Type 0
Steps clues known old new before after None =
    ((Comes clues old.at_hand Dies ⊎ Comes clues old.at_hand (Ends known)) × ((new ≡ old) × (after ≡ before)))
    ⊎ (SplitsAt clues old new × Spends before (Some after))
Steps clues known old new before after (Some Nothing) = ⊥
Steps clues known old new before after (Some (Found picture)) =
    (Comes clues old.at_hand (Ends picture) × (picture ≡ known → ⊥)) × (after ≡ before)
Steps clues known old new before after (Some BrokenOff) =
    ((settled : Masks) × ((cell : Cell) × Comes clues old.at_hand (Splits settled cell)))
    × (Spends before None × (after ≡ before))
