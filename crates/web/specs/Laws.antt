-- Laws of the desk, over any list of calls.
use Rattle.std.specs.Prelude.{◌≡◌, ℕ, ◌≤◌, ◌==◌, List, [], ◌∷◌, Option, None, Some, if◌then◌else◌}
use Rattle.live_audit.specs.Bench.{Seen}
use Rattle.program_options.specs.declared.options.Options.{Options}
use Rattle.web.specs.declared.desk.Desk.{Desk}
use Rattle.web.specs.declared.desk.Seat.{Seat}
use Rattle.web.specs.Desk.{Closes, IsClosed, IsKept, Opens, Says}
use Rattle.web.specs.Held.{IsEmpty}

-- the bench of a handle, if one is open
abbrev pub bench_of : List Seat → ℕ → Option Seen
bench_of [] handle = None
bench_of (seat ∷ seats) handle = if seat.handle == handle then Some seat.bench else bench_of seats handle

-- ---- desks in order

-- each handle is one of those that were given
abbrev pub AreGiven : ℕ → List Seat → Type 0
AreGiven given [] = Unit {0}
AreGiven given (seat ∷ seats) = ((1 ≤ seat.handle) × (seat.handle ≤ given)) × AreGiven given seats

-- no two benches have the same handle
abbrev pub AreApart : List Seat → Type 0
AreApart [] = Unit {0}
AreApart (seat ∷ seats) = (bench_of seats seat.handle ≡ None) × AreApart seats

-- The handles of the open benches differ, and each is from 1 to the one that was given last.
pub record IsOrderly (desk : Desk) : Type 0 where
  pub given : AreGiven desk.given desk.seats.items
  pub apart : AreApart desk.seats.items

-- ---- calls

-- What a host asks of a desk. `Other` is any call that changes no bench: for the text, the version,
-- a certificate or a proof, or an opening whose options are refused.
pub data Call : Type 0 where
  Open : List ℕ → Options → Call
  Say : ℕ → List ℕ → Call
  Close : ℕ → Call
  Other : Call

-- what a call does to a desk, whatever it answers
abbrev pub Does : Call → Desk → Desk → Type 0
Does (Open file options) old new = (status : ℕ) × ((handle : ℕ) × Opens file options old new status handle)
Does (Say handle lines) old new = (status : ℕ) × Says handle lines old new status
Does (Close handle) old new = (status : ℕ) × Closes handle old new status
Does Other old new = IsKept old new

-- what calls do, one after the other
abbrev pub DoesAll : List Call → Desk → Desk → Type 0
DoesAll [] old new = IsKept old new
DoesAll (call ∷ calls) old new = (between : Desk) × (Does call old between × DoesAll calls between new)

-- whether a call is one on the bench of a handle
abbrev pub IsOn : ℕ → Call → Type 0
IsOn handle (Open file options) = ⊥
IsOn handle (Say said lines) = said ≡ handle
IsOn handle (Close closed) = closed ≡ handle
IsOn handle Other = ⊥

-- ---- the laws

-- An empty desk is in order, and a desk in order stays so over any list of calls.
pub record DesksStayOrderly : Type 0 where
  pub empty : (desk : Desk) → IsEmpty desk → IsOrderly desk
  pub kept : (calls : List Call) (old new : Desk) → IsOrderly old → DoesAll calls old new → IsOrderly new

-- A handle that was closed is refused, for lines and for a second closing, after any list of calls.
pub record ClosedStayClosed : Type 0 where
  pub say : (handle : ℕ) (calls : List Call) (old closed new last : Desk) (lines : List ℕ) (status : ℕ)
      → IsOrderly old → Closes handle old closed 0 → DoesAll calls closed new → Says handle lines new last status
      → IsClosed new last status
  pub close : (handle : ℕ) (calls : List Call) (old closed new last : Desk) (status : ℕ)
      → IsOrderly old → Closes handle old closed 0 → DoesAll calls closed new → Closes handle new last status
      → IsClosed new last status

-- A call leaves all benches of given handles as they are, except the one that it is on.
abbrev pub OthersStay : Type 0
OthersStay = (call : Call) (old new : Desk) (handle : ℕ) → handle ≤ old.given → ¬ (IsOn handle call) → Does call old new
    → bench_of new.seats.items handle ≡ bench_of old.seats.items handle
