-- Windows: cells of a part, inside which another filling is looked for.
use Rattle.std.specs.Prelude.{◌≡◌, ◌⊎◌, List, ℕ}
use Rattle.line_facts.specs.Masks.{Masks}
use Rattle.picture.specs.CellSet.{HasCell}
use Rattle.picture.specs.Rows.{cell_at}
use Rattle.line_facts.specs.FactSets.{SameShape}
use Rattle.fixpoint.specs.LineNames.{AreLinesOf}
use Rattle.second_search.specs.declared.near.Window.{Window}
use Rattle.second_search.specs.CarriedParts.{LieInside}
use Rattle.second_search.specs.FixedOrder.{NamesLinesOf}

-- cells of a part that lie in the facts, and lines of the facts, among them both lines through each of the cells
pub record IsWindow (facts : Masks) (part : List ℕ) (window : Window) : Type 0 where
  pub among : (row col : ℕ) → HasCell window.cells row col → HasCell part row col
  pub inside : LieInside window.cells facts
  pub lines : AreLinesOf facts window.lines
  pub through : NamesLinesOf window.cells window.lines

-- in some of the cells, not necessarily all, the masks of `home` are replaced by those of `facts`, and nowhere else
pub record OpensIn (cells : List ℕ) (facts : Masks) (home new : List (List ℕ)) : Type 0 where
  pub same_shape : SameShape home new
  pub each : (row col : ℕ) → (cell_at new row col ≡ cell_at home row col)
      ⊎ (HasCell cells row col × (cell_at new row col ≡ cell_at facts row col))
