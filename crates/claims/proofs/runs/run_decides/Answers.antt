use Rattle.claims.proofs.ByWordsLemmas.{complete_runs}
use Rattle.claims.proofs.runs.run_decides.Goals as goal

pub returns : goal.returns
returns g c = complete_runs _ _ _ c.words_are_known.ensures c.proofs_are_verified.ensures c.run_with.ensures
