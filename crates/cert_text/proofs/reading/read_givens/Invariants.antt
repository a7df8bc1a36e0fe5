use Rattle.std.proofs.Common.{◌+◌, ◌≤◌, length}
use Rattle.cert_text.specs.Text.{given_lines, lines_of}
use Rattle.cert_text.proofs.ReadLemmas.{GivensLeft}
use Rattle.cert_text.proofs.reading.read_givens.Given as goal

abbrev pub invariant-loop-line : goal.invariant-loop-line
invariant-loop-line l = record {
  left : GivensLeft l.givens.items l.number l.least (lines_of l.rest) (given_lines 2 0 (lines_of l.text));
  room : l.number + length l.rest ≤ 2 + length l.text;
  shorter : length l.rest ≤ length l.text;
}

abbrev pub decreases-loop-line : goal.decreases-loop-line
decreases-loop-line l = length l.rest
