-- The clue lines of a section.
use Rattle.std.specs.Prelude.{ℕ, Bool, true, false, ◌&&◌, not, List, length, take, drop, Option, None, Some, Result, Ok}
use Rattle.std.specs.Prelude.{Err, filter, nat_le, ◌==◌, if◌then◌else◌}
use Rattle.std.specs.List.{list_any}
use Rattle.picture.specs.Readers.{◌>>=◌}
use Rattle.clues.specs.declared.block.Block.{Block}
use Rattle.non_text.specs.declared.fault.NonFault.{NonFault}
use Rattle.non_text.specs.declared.fault.NonFault.TheVariants.{BadCount}
use Rattle.non_text.specs.Lines.{is_blank_line, at_keyword, section_of}
use Rattle.non_text.specs.Cut.{section_lines}
use Rattle.non_text.specs.ClueLine.{clues_in}

abbrev pub is_full_line : List ℕ → Bool
is_full_line line = not (is_blank_line line)

-- Whether the blank lines of a section for n clues are skipped, as they are where there are exactly n other lines.
-- Otherwise there must be at least n lines, and all after the first n must be blank.
unfoldable pub leaves_blanks : ℕ → List (List ℕ) → Result Bool NonFault
leaves_blanks n lines =
    if length (filter is_full_line lines) == n then Ok true
    else (if nat_le n (length lines) && not (list_any is_full_line (drop n lines)) then Ok false else Err BadCount)

-- the lines of a section, with or without the blank ones
abbrev pub kept_lines : Bool → List (List ℕ) → List (List ℕ)
kept_lines true lines = filter is_full_line lines
kept_lines false lines = lines

-- the n clues of a section, for lines of `cells` cells
abbrev pub section_clues : ℕ → ℕ → List (List ℕ) → Result (List (List Block)) NonFault
section_clues n cells lines = do
  leaves ← leaves_blanks n lines
  clues_in cells (take n (kept_lines leaves lines))

-- the n clues of the section after a keyword line, or an error where the line is missing
abbrev pub found_clues : ℕ → ℕ → Option (List ℕ × List (List ℕ)) → Result (List (List Block)) NonFault
found_clues n cells None = Err BadCount
found_clues n cells (Some found) = section_clues n cells (section_of found.1)

-- the n clues after a keyword
unfoldable pub clues_behind : List ℕ → ℕ → ℕ → List (List ℕ) → Result (List (List Block)) NonFault
clues_behind keyword n cells lines = found_clues n cells (at_keyword keyword lines)

-- the lines that give clues, of the section that a text begins with
abbrev pub kept_in : Bool → List ℕ → List (List ℕ)
kept_in leaves text = kept_lines leaves (section_lines text)
