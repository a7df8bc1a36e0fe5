-- The lines that cross a line.
use Rattle.std.specs.Prelude.{◌≡◌, ◌≢◌, ℕ, ◌<◌, ◌==◌, List, Bool, not, length, slice_index}
use Rattle.picture.specs.declared.line_id.LineId.{LineId}
use Rattle.picture.specs.CrossingLines.{crossing_at}

-- two lists of masks differ at a place
abbrev pub differs : List ℕ → List ℕ → ℕ → Bool
differs before after i = not (slice_index before i == slice_index after i)

-- one of the lines that cross a line, at a cell that differs
pub record CrossesChange (line : LineId) (before after : List ℕ) (other : LineId) : Type 0 where
  pub is_crossing : other ≡ crossing_at line other.at
  pub within : other.at < length before
  pub differs : slice_index before other.at ≢ slice_index after other.at
