use Rattle.claims.proofs.ByWordsLemmas.{published_words}
use Rattle.claims.proofs.RunLemmas.{published_unique}
use Rattle.claims.proofs.arguments.run_published.Goals as goal

pub returns-clause-asked : goal.returns-clause-asked
returns-clause-asked g c = published_unique _ _ _ _ _ c.run_asked.ensures

pub returns-clause-words : goal.returns-clause-words
returns-clause-words g c = published_words _ _ _ c.words_are_known.ensures (published_unique _ _ _ _ _ c.run_asked.ensures)
