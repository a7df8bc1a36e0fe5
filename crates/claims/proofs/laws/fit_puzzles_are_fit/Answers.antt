use Rattle.claims.proofs.FitLawLemmas.{fit_is_fit}
use Rattle.claims.proofs.laws.fit_puzzles_are_fit.Goals as goal

pub returns : goal.returns
returns c = fit_is_fit
