-- The lines that cross a line.
use Rattle.std.specs.Prelude.{ℕ}
use Rattle.picture.specs.declared.line_id.Axis.{Axis}
use Rattle.picture.specs.declared.line_id.Axis.TheVariants.{Across, Down}
use Rattle.picture.specs.declared.line_id.LineId.{LineId}

-- the axis of the lines that cross the lines along an axis
abbrev pub crossing : Axis → Axis
crossing Across = Down
crossing Down = Across

-- the line that crosses a line at place i
abbrev pub crossing_at : LineId → ℕ → LineId
crossing_at line i = record { axis = crossing line.axis; at = i }
