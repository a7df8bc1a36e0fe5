use Rattle.claims.proofs.ByWordsLemmas.{checked_words}
use Rattle.claims.proofs.arguments.run_checked.Goals as goal

pub returns : goal.returns
returns g c = checked_words _ _ _ _ _ c.words_are_known.ensures c.run_asked.ensures
