-- The names of the lines of facts, as a set.
use Rattle.std.specs.Prelude.{ℕ, ◌<◌, ◌↔◌, ◌⊎◌, ◌≡◌}
use Rattle.line_facts.specs.Masks.{Masks}
use Rattle.picture.specs.declared.line_id.Axis.{Axis}
use Rattle.picture.specs.declared.line_id.LineId.{LineId}
use Rattle.picture.specs.LineSet.{Lines, HasName}
use Rattle.picture.specs.Rows.{HasLine}

-- the names in a set are names of the facts' lines
abbrev pub AreLinesOf : Masks → Lines → Type 0
AreLinesOf facts lines = (line : LineId) → HasName lines line → HasLine facts line

-- a set has the names of all lines of the facts, and no other
abbrev pub AllLines : Masks → Lines → Type 0
AllLines facts lines = (line : LineId) → HasName lines line ↔ HasLine facts line

-- the names of the first `count` lines along an axis are put into a set
abbrev pub PutsFirst : Lines → Lines → Axis → ℕ → Type 0
PutsFirst old new axis count = (line : LineId)
    → HasName new line ↔ (HasName old line ⊎ ((line.axis ≡ axis) × (line.at < count)))
