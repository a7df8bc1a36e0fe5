-- The orders in which agendas give their lines.
use Rattle.std.specs.Prelude.{◌≡◌, ℕ, ◌+◌, ◌-◌, ◌*◌, ◌%◌, ◌≤◌, List, [], ◌∷◌, ◌++◌, Option, None, Some}
use Rattle.picture.specs.declared.line_id.Axis.{Axis}
use Rattle.picture.specs.declared.line_id.Axis.TheVariants.{Across, Down}
use Rattle.picture.specs.declared.line_id.LineId.{LineId}
use Rattle.picture.specs.declared.picture.TheConstants.{MAX_SIDE}
use Rattle.picture.specs.LineSet.{Lines, HasName}

-- ---- in cyclic order

-- the place of a name in the circle of all names: the rows by number, then the columns by number
abbrev pub place_along : Axis → ℕ → ℕ
place_along Across at = at
place_along Down at = MAX_SIDE + at

abbrev pub place_of : LineId → ℕ
place_of line = place_along line.axis line.at

-- the names that wait, and the place in the circle from which the agenda goes on
pub record Round : Type 0 where
  pub waiting : Lines
  pub from : ℕ

abbrev pub round : Lines → ℕ → Round
round waiting from = record { waiting = waiting; from = from }

-- how many places one place follows another in the circle
abbrev pub places_on : ℕ → ℕ → ℕ
places_on from place = (place + 2 * MAX_SIDE - from) % (2 * MAX_SIDE)

-- the first name that waits, in cyclic order from where the agenda goes on
pub record IsNextRound (before : Round) (line : LineId) : Type 0 where
  pub waits : HasName before.waiting line
  pub first : (other : LineId) → HasName before.waiting other
      → places_on before.from (place_of line) ≤ places_on before.from (place_of other)

-- the first name that waits is taken, and the agenda goes on after it
abbrev pub TakesNextRound : Round → Round → Option LineId → Type 0
TakesNextRound old new None = new ≡ old
TakesNextRound old new (Some line) = IsNextRound old line × (new.from ≡ place_of line + 1)

-- ---- the newest first

-- the names that wait, and the order in which they came, the newest last
pub record Pile : Type 0 where
  pub waiting : Lines
  pub order : List LineId

abbrev pub pile : Lines → List LineId → Pile
pile waiting order = record { waiting = waiting; order = order }

-- a name that is new comes last, and one that waits already keeps its place
pub record PutsNewest (old new : Pile) (line : LineId) : Type 0 where
  pub known : HasName old.waiting line → new.order ≡ old.order
  pub fresh : ¬ HasName old.waiting line → new.order ≡ old.order ++ line ∷ []

-- what is new comes after what waited, which keeps its order
abbrev pub PutsAbove : List LineId → List LineId → Type 0
PutsAbove old new = (added : List LineId) × (new ≡ old ++ added)

-- the name that came last is taken
abbrev pub TakesNewest : Pile → Pile → Option LineId → Type 0
TakesNewest old new None = new ≡ old
TakesNewest old new (Some line) = old.order ≡ new.order ++ line ∷ []
