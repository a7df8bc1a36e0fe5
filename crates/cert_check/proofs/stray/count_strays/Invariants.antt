use Rattle.std.proofs.Common.{◌≡◌, ◌≤◌, ◌*◌}
use Rattle.cert_check.specs.Strays.{strays_above}
use Rattle.cert_check.proofs.stray.count_strays.Given as goal

abbrev pub invariant-loop-row : goal.invariant-loop-row
invariant-loop-row l = record {
  is : l.strays ≡ strays_above l.picture l.facts l.row;
  small : l.strays ≤ l.row * 120;
}
