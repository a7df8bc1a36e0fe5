-- The lines of a section, counted one by one.
use Rattle.std.specs.Prelude.{ℕ, ◌+◌, ◌&&◌, ◌||◌, List, [], ◌∷◌, false, nat_le, if◌then◌else◌}
use Rattle.non_text.specs.declared.counting.Count.{Count}
use Rattle.non_text.specs.Section.{is_full_line}

-- the count with one more line
abbrev pub with_line : ℕ → Count → List ℕ → Count
with_line n count line = record {
  lines = count.lines + 1;
  full = if is_full_line line then count.full + 1 else count.full;
  late = count.late || (is_full_line line && nat_le n count.lines);
}

-- the count with these lines counted too
unfoldable pub count_after : ℕ → Count → List (List ℕ) → Count
count_after n count [] = count
count_after n count (line ∷ lines) = count_after n (with_line n count line) lines

-- the count of these lines alone
abbrev pub count_of : ℕ → List (List ℕ) → Count
count_of n lines = count_after n (record { lines = 0; full = 0; late = false }) lines
