use Rattle.line_facts.specs.FactSets.{SameShape}
use Rattle.cert_check.proofs.GivenLemmas.{BaseSoFar}
use Rattle.cert_check.proofs.givens.set_givens.Given as goal

abbrev pub invariant-loop-i : goal.invariant-loop-i
invariant-loop-i l = record {
  same_shape : SameShape l.picture l.facts;
  so_far : BaseSoFar l.picture l.initial.facts l.facts l.i l.givens;
}
