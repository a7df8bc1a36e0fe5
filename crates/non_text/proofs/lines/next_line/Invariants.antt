use Rattle.std.proofs.Common.{◌≡◌, ◌≤◌, length}
use Rattle.non_text.specs.Lines.{lines_of}
use Rattle.non_text.proofs.lines.next_line.Given as goal

abbrev pub invariant-loop-line : goal.invariant-loop-line
invariant-loop-line l = record {
  lines : lines_of l.rest ≡ lines_of l.text;
  shorter : length l.rest ≤ length l.text;
}

abbrev pub decreases-loop-line : goal.decreases-loop-line
decreases-loop-line l = length l.rest
