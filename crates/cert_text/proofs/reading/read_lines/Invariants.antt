use Rattle.std.proofs.Common.{◌+◌, ◌≤◌, length}
use Rattle.cert_text.specs.Reading.{steps_below}
use Rattle.cert_text.specs.Text.{lines_of}
use Rattle.cert_text.proofs.ReadLemmas.{LinesLeft}
use Rattle.cert_text.proofs.reading.read_lines.Given as goal

abbrev pub invariant-loop-line : goal.invariant-loop-line
invariant-loop-line l = record {
  left : LinesLeft l.form l.steps.items l.runs.items l.number (lines_of l.rest) (steps_below l.form l.first (lines_of l.text));
  room : l.number + length l.rest ≤ l.first + length l.text;
}

abbrev pub decreases-loop-line : goal.decreases-loop-line
decreases-loop-line l = length l.rest
