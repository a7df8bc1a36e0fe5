use Rattle.cert_check.proofs.PublishedLemmas.{PublishedSoFar}
use Rattle.cert_check.proofs.publishing.find_unpublished.Given as goal

abbrev pub invariant-loop-i : goal.invariant-loop-i
invariant-loop-i l = PublishedSoFar l.picture l.published l.i l.givens
