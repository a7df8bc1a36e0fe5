use Rattle.claims.proofs.ByWordsLemmas.{assessed_words}
use Rattle.claims.proofs.FitLemmas.{assessed_fit}
use Rattle.claims.proofs.arguments.run_assessed.Goals as goal

pub returns-clause-asked : goal.returns-clause-asked
returns-clause-asked g c = assessed_fit _ _ _ _ _ c.fit_puzzles_are_fit.ensures c.run_asked.ensures

pub returns-clause-words : goal.returns-clause-words
returns-clause-words g c = assessed_words _ _ _ c.words_are_known.ensures (assessed_fit _ _ _ _ _ c.fit_puzzles_are_fit.ensures c.run_asked.ensures)
