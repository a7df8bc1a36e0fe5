use Rattle.std.proofs.Common.{◌-◌, ◌<◌, ◌≤◌, length, take}
use Rattle.cert_text.specs.Cert.{IsRun}
use Rattle.cert_text.proofs.cert.run_at.Given as goal

abbrev pub invariant-loop-count : goal.invariant-loop-count
invariant-loop-count l = record {
  run : IsRun (take l.count l.steps);
  some : 0 < l.count;
  few : l.count ≤ length l.steps;
  most : l.count ≤ 1000;
}

abbrev pub decreases-loop-count : goal.decreases-loop-count
decreases-loop-count l = length l.steps - l.count
