use Rattle.std.proofs.Common.{◌+◌, ◌≤◌, length}
use Rattle.cert_text.specs.Text.{lines_of}
use Rattle.text_check.specs.Givens.{cells_of}
use Rattle.text_check.proofs.GivensLemmas.{SetLeft}
use Rattle.text_check.proofs.givens.published_cells.Given as goal

abbrev pub invariant-loop-line : goal.invariant-loop-line
invariant-loop-line l = record {
  left : SetLeft l.height l.width l.cells l.number (lines_of l.rest) (cells_of l.height l.width l.bytes);
  room : l.number + length l.rest ≤ 1 + length l.bytes;
}

abbrev pub decreases-loop-line : goal.decreases-loop-line
decreases-loop-line l = length l.rest
