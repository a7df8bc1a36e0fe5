use Rattle.claims.proofs.ByWordsLemmas.{pairs_words}
use Rattle.claims.proofs.RunLemmas.{pairs}
use Rattle.claims.proofs.runs.run_prints_what_run_accepts.Goals as goal

pub returns-clause-asked : goal.returns-clause-asked
returns-clause-asked g c =
    pairs _ _ _ _ _ _ _ _ _ c.started_prints_are_accepted.ensures c.one_file_is_one_document.ensures c.run_with-picture.ensures c.run_with-cert.ensures c.run_with-check.ensures

pub returns-clause-words : goal.returns-clause-words
returns-clause-words g c =
    pairs_words _ _ _ _ _ _ _ _ _ c.words_are_known.ensures
    (pairs _ _ _ _ _ _ _ _ _ c.started_prints_are_accepted.ensures c.one_file_is_one_document.ensures c.run_with-picture.ensures c.run_with-cert.ensures c.run_with-check.ensures)
