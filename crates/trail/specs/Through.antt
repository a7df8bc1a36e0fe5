-- The lines through a cell.
use Rattle.std.specs.Prelude.{◌≡◌, ℕ, ◌<◌, ◌⊎◌, ◌↔◌}
use Rattle.picture.specs.declared.line_id.Axis.TheVariants.{Across, Down}
use Rattle.picture.specs.declared.line_id.LineId.{LineId}
use Rattle.picture.specs.declared.picture.TheConstants.{MAX_SIDE}
use Rattle.picture.specs.LineSet.{Lines, HasName}
use Rattle.trail.specs.declared.cell.Cell.{Cell}

abbrev pub across : ℕ → LineId
across at = record { axis = Across; at = at }

abbrev pub down : ℕ → LineId
down at = record { axis = Down; at = at }

-- a picture can have the cell
abbrev pub CanLie : Cell → Type 0
CanLie cell = (cell.row < MAX_SIDE) × (cell.col < MAX_SIDE)

-- exactly the two lines through a cell are named, and none where no picture can have it
abbrev pub NamesLinesAt : Lines → Cell → Type 0
NamesLinesAt lines cell = (line : LineId)
    → HasName lines line ↔ (CanLie cell × ((line ≡ across cell.row) ⊎ (line ≡ down cell.col)))
