-- Lines that wait to be evaluated, as a set of names.
use Rattle.std.specs.Prelude.{◌≡◌, ◌↔◌, ◌⊎◌, ℕ, ◌*◌, ◌<◌, List, length, Option, None, Some, slice_index_or}
use Rattle.picture.specs.declared.line_id.Axis.{Axis}
use Rattle.picture.specs.declared.line_id.Axis.TheVariants.{Across}
use Rattle.picture.specs.declared.line_id.LineId.{LineId}
use Rattle.picture.specs.declared.picture.TheConstants.{MAX_SIDE}
use Rattle.picture.specs.LineSet.{Lines, IsLineSet, HasName, TakesOutName, name_count, no_names}

-- a name is taken out of the set, or the set is empty
abbrev pub Takes : Lines → Lines → Option LineId → Type 0
Takes old new None = (old ≡ no_names) × (new ≡ no_names)
Takes old new (Some line) = HasName old line × TakesOutName old new line

-- the name at place i of a stack
abbrev pub name_at : List LineId → ℕ → LineId
name_at stack i = slice_index_or stack i (record { axis = Across; at = 0 })

-- the first `len` names of a stack are those of the set, each of them once
pub record IsStack (stack : List LineId) (len : ℕ) (lines : Lines) : Type 0 where
  pub within : IsLineSet lines
  pub count : len ≡ name_count lines
  pub room : length stack ≡ 2 * MAX_SIDE
  pub members : (i : ℕ) → i < len → HasName lines (name_at stack i)
  pub apart : (i j : ℕ) → i < len → j < len → name_at stack i ≡ name_at stack j → i ≡ j

-- the names that a set has along an axis are put into another set
abbrev pub PutsAlong : Axis → Lines → Lines → Lines → Type 0
PutsAlong axis lines old new = (line : LineId)
    → HasName new line ↔ (HasName old line ⊎ ((line.axis ≡ axis) × HasName lines line))
