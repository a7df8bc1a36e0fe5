-- The two directions in which a line is read along a pattern.
use Rattle.std.specs.Prelude.{ℕ, List, Bool}
use Rattle.line_settle.specs.Patterns.{finish_step, reach_step}

-- the end of a line at which its reading begins
pub data End : Type 0 where
  Front : End
  Back : End

-- The states to which a cell with one of the mask's colours leads a line that is read from this end, by the states from
-- which it does: the states after the cell by those before it, or those before it by those after it.
abbrev pub step_from : End → List ℕ → ℕ → (ℕ → Bool) → ℕ → Bool
step_from Front = reach_step
step_from Back = finish_step
