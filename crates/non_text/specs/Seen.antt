-- Which keywords the lines above have, as the reader keeps them.
use Rattle.std.specs.Prelude.{ℕ, Bool, ◌&&◌, ◌||◌, List, Option, None, Some, is_none, codes, if◌then◌else◌}
use Rattle.std.specs.List.{list_any}
use Rattle.non_text.specs.declared.seen.Seen.{Seen}
use Rattle.non_text.specs.declared.fault.NonFault.{NonFault}
use Rattle.non_text.specs.declared.fault.NonFault.TheVariants.{BadSize, Repeated}
use Rattle.non_text.specs.Lines.{has_keyword, value_of}
use Rattle.non_text.specs.Puzzle.{size_in, is_size_line}

-- the keywords on these lines
abbrev pub seen_on : List (List ℕ) → Seen
seen_on lines = record {
  width = list_any (has_keyword (codes "width")) lines;
  height = list_any (has_keyword (codes "height")) lines;
  rows = list_any (has_keyword (codes "rows")) lines;
  columns = list_any (has_keyword (codes "columns")) lines;
}

-- the keywords with that of one more line
abbrev pub seen_with : Seen → List ℕ → Seen
seen_with seen line = record {
  width = has_keyword (codes "width") line || seen.width;
  height = has_keyword (codes "height") line || seen.height;
  rows = has_keyword (codes "rows") line || seen.rows;
  columns = has_keyword (codes "columns") line || seen.columns;
}

-- the line has a keyword that was seen
abbrev pub is_seen : Seen → List ℕ → Bool
is_seen seen line =
    ((has_keyword (codes "width") line && seen.width) || (has_keyword (codes "height") line && seen.height))
    || ((has_keyword (codes "rows") line && seen.rows) || (has_keyword (codes "columns") line && seen.columns))

-- the error of a line below these keywords
unfoldable pub fault_below : Seen → List ℕ → Option NonFault
fault_below seen line =
    if is_seen seen line then Some Repeated
    else (if is_size_line line && is_none (size_in (value_of line)) then Some BadSize else None)
