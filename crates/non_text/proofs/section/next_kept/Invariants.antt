use Rattle.std.proofs.Common.{◌≡◌, ◌≤◌, length}
use Rattle.non_text.specs.Section.{kept_in}
use Rattle.non_text.proofs.section.next_kept.Given as goal

abbrev pub invariant-loop-line : goal.invariant-loop-line
invariant-loop-line l = record {
  lines : kept_in l.leaves_blanks l.rest ≡ kept_in l.leaves_blanks l.text;
  shorter : length l.rest ≤ length l.text;
}

abbrev pub decreases-loop-line : goal.decreases-loop-line
decreases-loop-line l = length l.rest
