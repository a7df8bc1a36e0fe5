use Rattle.std.proofs.Common.{◌↔◌, drop}
use Rattle.cert_text.specs.Cert.{AreRuns}
use Rattle.cert_text.proofs.cert.are_runs.Given as goal

abbrev pub invariant-loop-run : goal.invariant-loop-run
invariant-loop-run l = record {
  so_far : AreRuns l.runs l.lines ↔ AreRuns (drop l.run-index l.runs) l.rest;
}
