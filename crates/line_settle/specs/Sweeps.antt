-- What a sweep over a line keeps from cell to cell.
use Rattle.std.specs.Prelude.{◌≡◌, ℕ, ◌^◌, ◌<◌, ◌≤◌, List, true, length, slice_index}
use Rattle.line_settle.specs.Patterns.{reaches}
use Rattle.line_settle.specs.MarkedLists.{finishes_marked, reaches_marked, AreReached, AreBehind, ReachedSets}
use Rattle.line_settle.specs.MarkedLists.{SweepsOut}
use Rattle.line_settle.specs.StateSets.{AreStates, IsForeign, StateSets, ArePatternSets}

-- from a place on none of these colours is drawn
abbrev pub IsUndrawn : ℕ → List ℕ → ℕ → Type 0
IsUndrawn colours drawn place = (i : ℕ) → place ≤ i → IsForeign colours (slice_index drawn i)

-- the first i cells are swept, if the tables are those of the old masks and these leave no line marked
abbrev pub SweptAll : ℕ → StateSets → List ℕ → List ℕ → List ℕ → List ℕ → List ℕ → ℕ → Type 0
SweptAll w sets drawn plain marked old left i = (pattern : List ℕ) → ArePatternSets w pattern sets
    → ((j : ℕ) → j < length old → AreBehind pattern old drawn plain marked j)
    → (finishes_marked pattern old drawn 0 ≡ true → ⊥) → SweepsOut pattern drawn old left i

-- the first i cells are swept, and these states are those that lines, and marked lines, reach before cell i
pub record SweptTo (w : ℕ) (sets : StateSets) (drawn plain marked old left : List ℕ) (from : ReachedSets)
    (i : ℕ) : Type 0 where
  pub small : (t : ℕ) → slice_index left t < 2 ^ 16
  pub from_is : (pattern : List ℕ) → ArePatternSets w pattern sets
      → AreReached pattern (reaches pattern left i) (reaches_marked pattern left drawn i) from
  pub so_far : SweptAll w sets drawn plain marked old left i

-- the first i cells are swept, and these states are those that marked lines reach before cell i
pub record SweptMarked (w : ℕ) (sets : StateSets) (drawn plain marked old left : List ℕ) (from i : ℕ) : Type 0 where
  pub small : (t : ℕ) → slice_index left t < 2 ^ 16
  pub from_is : (pattern : List ℕ) → ArePatternSets w pattern sets
      → AreStates pattern (reaches_marked pattern left drawn i) from
  pub so_far : SweptAll w sets drawn plain marked old left i
