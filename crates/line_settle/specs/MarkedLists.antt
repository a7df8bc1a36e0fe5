-- Marked lists, which have a drawn colour somewhere, by the states of a pattern that they go through.
use Rattle.std.specs.Prelude.{◌≡◌, ℕ, zero, suc, ◌<◌, ◌⊎◌, List, [], ◌∷◌, Bool, true, false, ◌||◌, length, slice_index}
use Rattle.std.specs.Prelude.{slice_set, drop, bit_and}
use Rattle.line_settle.specs.Directions.{End, step_from}
use Rattle.line_settle.specs.Directions.End.{Front, Back}
use Rattle.line_settle.specs.Patterns.{finishes, reaches}
use Rattle.line_settle.specs.StateSets.{AreStates}
use Rattle.line_facts.specs.Masks.{all_sixteen}
use Rattle.line_settle.specs.declared.sweep.Reached.{Reached}

-- A cell leads a line to state q with a drawn colour on the way: by a colour of the mask from a state of `marked`, which
-- has one behind it, or by one of `colours`, the mask's drawn colours.
abbrev pub step_marked : End → List ℕ → ℕ → ℕ → (ℕ → Bool) → (ℕ → Bool) → ℕ → Bool
step_marked end pattern mask colours all marked q =
    step_from end pattern mask marked q || step_from end pattern colours all q

-- a line of cells with these masks can go from state q to the pattern's end, with a drawn colour on the way
abbrev pub finishes_marked : List ℕ → List ℕ → List ℕ → ℕ → Bool
finishes_marked pattern [] drawn q = false
finishes_marked pattern (mask ∷ masks) [] q = false
finishes_marked pattern (mask ∷ masks) (d ∷ drawn) q =
    step_marked Back pattern mask (bit_and mask d) (finishes pattern masks) (finishes_marked pattern masks drawn) q

-- the first i cells of a line with these masks can reach state q, with a drawn colour on the way
abbrev pub reaches_marked : List ℕ → List ℕ → List ℕ → ℕ → ℕ → Bool
reaches_marked pattern masks drawn zero q = false
reaches_marked pattern masks drawn (suc i) q =
    step_marked Front pattern (slice_index masks i) (bit_and (slice_index masks i) (slice_index drawn i))
    (reaches pattern masks i) (reaches_marked pattern masks drawn i) q

-- the sets of states of a `Reached` as numbers; `bits` gives the number of a word
pub record ReachedSets : Type 0 where
  pub all : ℕ
  pub marked : ℕ

abbrev pub reached_of : {W : Type 0} → (W → ℕ) → Reached W → ReachedSets
reached_of bits from = record { all = bits from.all; marked = bits from.marked }

-- states that lines reach, but no marked line
abbrev pub unmarked : ℕ → ReachedSets
unmarked all = record { all = all; marked = 0 }

-- `from.all` has the states for which `all` holds, and `from.marked` those for which `marked` holds
pub record AreReached (pattern : List ℕ) (all marked : ℕ → Bool) (from : ReachedSets) : Type 0 where
  pub all_are : AreStates pattern all from.all
  pub marked_are : AreStates pattern marked from.marked

-- after cell i the states from which lines can go to the end, and those from which marked lines can
pub record AreBehind (pattern left drawn plain marked : List ℕ) (i : ℕ) : Type 0 where
  pub all_are : AreStates pattern (finishes pattern (drop (suc i) left)) (slice_index plain i)
  pub marked_are :
      AreStates pattern (finishes_marked pattern (drop (suc i) left) (drop (suc i) drawn)) (slice_index marked i)

-- Each of the first n cells has its old mask or all sixteen colours, the other cells are as they
-- were, no line is marked, and with all sixteen in a further one of the first n cells some line would be.
pub record SweepsOut (pattern drawn old new : List ℕ) (n : ℕ) : Type 0 where
  pub same_length : length new ≡ length old
  pub each : (i : ℕ) → i < n → (slice_index new i ≡ slice_index old i) ⊎ (slice_index new i ≡ all_sixteen)
  pub behind : drop n new ≡ drop n old
  pub forced : finishes_marked pattern new drawn 0 ≡ true → ⊥
  pub needed : (i : ℕ) → i < n → (slice_index new i ≡ all_sixteen → ⊥)
      → finishes_marked pattern (slice_set new i all_sixteen) drawn 0 ≡ true
