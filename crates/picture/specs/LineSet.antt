-- A set of line names as a mask for each axis: bit n of the mask stands for the line at place n.
use Rattle.std.specs.Prelude.{◌≡◌, ℕ, ◌+◌, ◌<◌, ◌≤◌, ◌^◌, ◌⊎◌, ◌↔◌, IsBitSet, count_ones}
use Rattle.picture.specs.declared.line_id.Axis.{Axis}
use Rattle.picture.specs.declared.line_id.Axis.TheVariants.{Across, Down}
use Rattle.picture.specs.declared.line_id.LineId.{LineId}
use Rattle.picture.specs.declared.picture.TheConstants.{MAX_SIDE}

pub record Lines : Type 0 where
  pub rows : ℕ
  pub columns : ℕ

-- each mask has bits only for lines that a picture can have
pub record IsLineSet (lines : Lines) : Type 0 where
  pub rows_within : lines.rows < 2 ^ MAX_SIDE
  pub columns_within : lines.columns < 2 ^ MAX_SIDE

abbrev pub mask_along : Axis → Lines → ℕ
mask_along Across lines = lines.rows
mask_along Down lines = lines.columns

abbrev pub HasName : Lines → LineId → Type 0
HasName lines line = IsBitSet (mask_along line.axis lines) line.at

-- new has the names of old and this one
abbrev pub PutsName : Lines → Lines → LineId → Type 0
PutsName old new line = (other : LineId) → HasName new other ↔ (HasName old other ⊎ (other ≡ line))

-- new has the names of old and those of another set
abbrev pub PutsNames : Lines → Lines → Lines → Type 0
PutsNames old new names = (line : LineId) → HasName new line ↔ (HasName old line ⊎ HasName names line)

-- new has the names of old except this one
abbrev pub TakesOutName : Lines → Lines → LineId → Type 0
TakesOutName old new line = (other : LineId) → HasName new other ↔ (HasName old other × ¬ (other ≡ line))

-- how many names there are
abbrev pub name_count : Lines → ℕ
name_count lines = count_ones lines.rows + count_ones lines.columns

-- the set without a name
abbrev pub no_names : Lines
no_names = record { rows = 0; columns = 0 }

-- the first place from `from` on whose bit is set in a mask is `at`; or there is none
pub record IsFirstBit (mask from at : ℕ) : Type 0 where
  pub onward : from ≤ at
  pub within : at < MAX_SIDE
  pub is_set : IsBitSet mask at
  pub first : (before : ℕ) → from ≤ before → before < at → ¬ IsBitSet mask before

abbrev pub IsClearFrom : ℕ → ℕ → Type 0
IsClearFrom mask from = (at : ℕ) → from ≤ at → ¬ IsBitSet mask at
