-- What may be chosen.
use Rattle.std.specs.Prelude.{ℕ, ◌<◌, length}
use Rattle.picture.specs.Rows.{width_of, cell_at}
use Rattle.line_facts.specs.Masks.{IsOnly, Masks}
use Rattle.trail.specs.declared.cell.Cell.{Cell}
use Rattle.split_choice.specs.declared.choosing.Chosen.{Chosen}
use Rattle.split_choice.specs.declared.choosing.Chosen.TheVariants.{Splits, Fills, Nothing}

-- a cell of the facts that is not settled: no colour is left in it, or more than one
pub record IsUnsettled (facts : Masks) (cell : Cell) : Type 0 where
  pub in_rows : cell.row < length facts
  pub in_columns : cell.col < width_of facts
  pub unsettled : (k : ℕ) → IsOnly (cell_at facts cell.row cell.col) k → ⊥

-- where a cell is chosen, it can be split
abbrev pub CanSplit : Masks → Chosen → Type 0
CanSplit facts (Splits cell) = IsUnsettled facts cell
CanSplit facts (Fills others) = Unit {0}
CanSplit facts Nothing = Unit {0}
