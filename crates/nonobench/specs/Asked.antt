-- What was asked of the system so far.
use Rattle.std.specs.Prelude.{ℕ, List, []}

-- the names that were opened, in order, and how often an opening or a read failed
pub record Asked : Type 0 where
  pub opened : List (List ℕ)
  pub faults : ℕ

abbrev pub nothing_asked : Asked
nothing_asked = record { opened = []; faults = 0 }
