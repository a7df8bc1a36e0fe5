use Rattle.std.proofs.Common.{ℕ, List, ◌++◌, length}
use Rattle.cert_text.specs.Cert.{AreLongest, AreRuns}
use Rattle.cert_text.proofs.cert.runs_of.Given as goal

abbrev pub invariant-loop-rest : goal.invariant-loop-rest
invariant-loop-rest l = record {
  so_far : (more : List ℕ) → AreRuns more l.rest → AreRuns (l.runs.items ++ more) l.steps;
  longest : (more : List ℕ) → AreLongest more l.rest → AreLongest (l.runs.items ++ more) l.steps;
}

abbrev pub decreases-loop-rest : goal.decreases-loop-rest
decreases-loop-rest l = length l.rest
