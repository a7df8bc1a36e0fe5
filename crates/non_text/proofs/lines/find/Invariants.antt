use Rattle.std.proofs.Common.{◌≡◌, length}
use Rattle.non_text.specs.Lines.{lines_of, at_keyword}
use Rattle.non_text.proofs.lines.find.Given as goal

abbrev pub invariant-loop-line : goal.invariant-loop-line
invariant-loop-line l = at_keyword l.word (lines_of l.rest) ≡ at_keyword l.word (lines_of l.text)

abbrev pub decreases-loop-line : goal.decreases-loop-line
decreases-loop-line l = length l.rest
