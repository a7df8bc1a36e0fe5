use Rattle.cert_check.specs.Opening.{HasLeft}
use Rattle.cert_check.proofs.OpenLemmas.{ToldSoFar}
use Rattle.cert_check.proofs.opening.open_in.Given as goal

abbrev pub invariant-loop-i : goal.invariant-loop-i
invariant-loop-i l = record {
  told : ToldSoFar l.facts l.literals l.i l.found;
  left : HasLeft l.facts l.found;
}
