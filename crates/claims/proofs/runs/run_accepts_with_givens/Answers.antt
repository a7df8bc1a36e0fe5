use Rattle.claims.proofs.ByWordsLemmas.{given_proofs}
use Rattle.claims.proofs.runs.run_accepts_with_givens.Goals as goal

pub returns : goal.returns
returns g c = given_proofs _ _ _ _ _ _ c.words_are_known.ensures c.published_proofs_are_verified.ensures c.run_with-cert.ensures c.run_with-check.ensures
