use Rattle.std.proofs.Common.{◌≡◌, ◌≤◌}
use Rattle.cert_check.specs.Strays.{row_strays}
use Rattle.cert_check.proofs.stray.strays_in.Given as goal

abbrev pub invariant-loop-col : goal.invariant-loop-col
invariant-loop-col l = record {
  is : l.strays ≡ row_strays l.picture l.facts l.row l.col;
  small : l.strays ≤ l.col;
}
