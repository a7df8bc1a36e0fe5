use Rattle.std.proofs.Common.{◌*◌, ◌≤◌}
use Rattle.cert_text.proofs.OrderLemmas.{OrderedSoFar}
use Rattle.cert_text.proofs.cert.are_ordered.Given as goal

abbrev pub invariant-loop-cell : goal.invariant-loop-cell
invariant-loop-cell l = record {
  so_far : OrderedSoFar l.cells l.cell-index l.least;
  small : l.least ≤ 1000 * 1000;
}
