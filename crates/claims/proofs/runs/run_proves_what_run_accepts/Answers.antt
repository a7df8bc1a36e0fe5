use Rattle.claims.proofs.ByWordsLemmas.{proofs_words}
use Rattle.claims.proofs.RunLemmas.{proofs}
use Rattle.claims.proofs.runs.run_proves_what_run_accepts.Goals as goal

pub returns-clause-asked : goal.returns-clause-asked
returns-clause-asked g c = proofs _ _ _ _ _ _ c.proofs_are_verified.ensures c.run_with-cert.ensures c.run_with-check.ensures

pub returns-clause-words : goal.returns-clause-words
returns-clause-words g c = proofs_words _ _ _ _ _ _ c.words_are_known.ensures (proofs _ _ _ _ _ _ c.proofs_are_verified.ensures c.run_with-cert.ensures c.run_with-check.ensures)
