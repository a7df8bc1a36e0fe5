use Rattle.std.proofs.Common.{◌≡◌, [], length}
use Rattle.non_text.specs.Lines.{lines_of}
use Rattle.non_text.specs.Puzzle.{first_fault}
use Rattle.non_text.proofs.SeenLemmas.{faults_below}
use Rattle.non_text.proofs.seen.first_fault.Given as goal

abbrev pub invariant-loop-line : goal.invariant-loop-line
invariant-loop-line l = faults_below l.seen (lines_of l.rest) ≡ first_fault [] (lines_of l.text)

abbrev pub decreases-loop-line : goal.decreases-loop-line
decreases-loop-line l = length l.rest
