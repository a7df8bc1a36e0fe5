-- Looks at lines: which line is due, which cells are open, and what a look excludes.
use Rattle.std.specs.Prelude.{◌≢◌, ◌⊎◌, ◌&&◌, ℕ, ◌-◌, ◌<◌, ◌==◌, Bool, List, [], ◌∷◌, length, ⊤}
use Rattle.std.specs.Prelude.{Option, None, Some, count_ones, nat_lt, slice_index, if◌then◌else◌, not}
use Rattle.std.specs.Int.{trailing_zeros, w16}
use Rattle.std.specs.List.{filter_map, range_with_len, sum_by}
use Rattle.line_facts.specs.Masks.{Masks}
use Rattle.picture.specs.declared.line_id.LineId.{LineId}
use Rattle.picture.specs.Rows.{line_of}
use Rattle.grade.specs.declared.look.Fall.{Fall}

-- a look at a line in a round: the facts before it, and those after it
pub record Look : Type 0 where
  pub line : LineId
  pub round : ℕ
  pub before : Masks
  pub after : Masks

-- the look excludes something from a cell of a line
abbrev pub Changes : Look → LineId → Type 0
Changes look line = line_of look.before line ≢ line_of look.after line

-- A line is due after some looks, which are given the newest first: it was never looked at, or a look at another line
-- has excluded something from it since its last look.
abbrev pub IsDue : List Look → LineId → Type 0
IsDue [] line = ⊤
IsDue (look ∷ earlier) line = (look.line ≢ line) × (Changes look line ⊎ IsDue earlier line)

-- a cell is open while it can have more than one colour
abbrev pub is_open : ℕ → Bool
is_open mask = nat_lt 1 (count_ones mask)

abbrev pub HasOpenCell : Masks → LineId → Type 0
HasOpenCell facts line = (i : ℕ) × (1 < count_ones (slice_index (line_of facts line) i))

-- how many colours are left in the cells of a line, taken together
abbrev pub colours_on : Masks → LineId → ℕ
colours_on facts line = sum_by count_ones (line_of facts line)

-- how many exclusions a look makes
abbrev pub exclusions : Look → ℕ
exclusions look = colours_on look.before look.line - colours_on look.after look.line

-- a cell falls when one of its colours is left: the lowest is then the only one
abbrev pub fall_at : List ℕ → List ℕ → ℕ → Option Fall
fall_at before after i =
    if is_open (slice_index before i) && (count_ones (slice_index after i) == 1)
    then Some (record { place = i; colour = trailing_zeros w16 (slice_index after i) })
    else None

-- the cells of a line that fall between two lists of masks, by rising place
abbrev pub falls_between : List ℕ → List ℕ → List Fall
falls_between before after = filter_map (fall_at before after) (range_with_len 0 (length before))

-- the cells that fall in a look
abbrev pub falls_of : Look → List Fall
falls_of look = falls_between (line_of look.before look.line) (line_of look.after look.line)

-- some cell falls in a look
abbrev pub has_fall : Look → Bool
has_fall look = not (length (falls_of look) == 0)
