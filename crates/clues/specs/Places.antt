-- Where an edit moves the lines along one axis.
use Rattle.std.specs.Prelude.{◌≡◌, ℕ, ◌+◌, ◌-◌, ◌<◌, ◌≤◌, ⊤, Option, Some, None, if◌then◌else◌, ◌==◌, nat_lt}
use Rattle.clues.specs.declared.places.Places.{Places}
use Rattle.clues.specs.declared.places.Places.TheVariants.{Kept, Inserted, Deleted, Swapped}

-- the new place of the line at a place when two lines are exchanged
abbrev pub exchanged : ℕ → ℕ → ℕ → ℕ
exchanged first second at = if at == first then second else (if at == second then first else at)

-- the new place of the line at an old place, if it is still there
abbrev pub new_place : Places → ℕ → Option ℕ
new_place Kept at = Some at
new_place (Inserted place) at = Some (if nat_lt at place then at else (at + 1))
new_place (Deleted place) at = if at == place then None else Some (if nat_lt at place then at else (at - 1))
new_place (Swapped first second) at = Some (exchanged first second at)

-- what moves the lines back to their old places
abbrev pub reversed : Places → Places
reversed Kept = Kept
reversed (Inserted place) = Deleted place
reversed (Deleted place) = Inserted place
reversed (Swapped first second) = Swapped first second

-- the old place of the line at a new place, if it was there before
abbrev pub old_place : Places → ℕ → Option ℕ
old_place places at = new_place (reversed places) at

-- how many lines there are afterwards
abbrev pub count_after : Places → ℕ → ℕ
count_after Kept count = count
count_after (Inserted place) count = count + 1
count_after (Deleted place) count = count - 1
count_after (Swapped first second) count = count

-- the places are among that many lines, or after the last for an inserted line
abbrev pub AreAmong : Places → ℕ → Type 0
AreAmong Kept count = ⊤
AreAmong (Inserted place) count = place ≤ count
AreAmong (Deleted place) count = place < count
AreAmong (Swapped first second) count = (first < count) × (second < count)

-- a line is inserted at the place
abbrev pub IsNewAt : Places → ℕ → Type 0
IsNewAt Kept at = ⊥
IsNewAt (Inserted place) at = at ≡ place
IsNewAt (Deleted place) at = ⊥
IsNewAt (Swapped first second) at = ⊥

-- the lines that cross these change their length
abbrev pub ChangesLength : Places → Type 0
ChangesLength Kept = ⊥
ChangesLength (Inserted place) = ⊤
ChangesLength (Deleted place) = ⊤
ChangesLength (Swapped first second) = ⊥
