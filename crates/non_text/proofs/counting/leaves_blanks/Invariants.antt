use Rattle.std.proofs.Common.{◌≡◌, ◌≤◌, ◌+◌, length}
use Rattle.non_text.specs.Cut.{section_lines}
use Rattle.non_text.specs.SectionCounts.{count_after, count_of}
use Rattle.non_text.proofs.counting.leaves_blanks.Given as goal

abbrev pub invariant-loop-line : goal.invariant-loop-line
invariant-loop-line l = record {
  counted : count_after l.fn.n l.count (section_lines l.rest) ≡ count_of l.fn.n (section_lines l.text);
  lines_fit : l.count.lines + length l.rest ≤ length l.text;
  full_fit : l.count.full + length l.rest ≤ length l.text;
}

abbrev pub decreases-loop-line : goal.decreases-loop-line
decreases-loop-line l = length l.rest
