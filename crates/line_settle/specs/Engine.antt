-- What callers see of a line engine, and the sizes of its buffers.
use Rattle.std.specs.Prelude.{◌≡◌, ℕ, ◌+◌, ◌*◌, ◌≤◌, Bool, List, length}
use Rattle.picture.specs.declared.picture.TheConstants.{MAX_SIDE}

-- the most cells that a line may have, and how often a line was narrowed
pub record Engine : Type 0 where
  pub longest : ℕ
  pub calls : ℕ

abbrev pub engine : ℕ → ℕ → Engine
engine longest calls = record { longest = longest; calls = calls }

-- the buffers of a plain engine: a pattern, a row of truth values for its states, and a table of such rows
pub record EngineRoom (longest : ℕ) (pattern : List ℕ) (row table : List Bool) : Type 0 where
  pub pattern_room : length pattern ≡ longest + 1
  pub row_room : length row ≡ longest + 1
  pub table_room : length table ≡ (longest + 1) * (longest + 1)

-- the buffers of a mask engine: two sets of positions for each block, and for the end after the last one, once in 64
-- bits and once in 128
pub record MaskRoom (longest : ℕ) (starting waiting far_starting far_waiting : List ℕ) : Type 0 where
  pub starting_room : length starting ≡ longest + 1
  pub waiting_room : length waiting ≡ longest + 1
  pub far_starting_room : length far_starting ≡ longest + 1
  pub far_waiting_room : length far_waiting ≡ longest + 1
  pub short : longest ≤ MAX_SIDE
