use Rattle.claims.proofs.ProofLemmas.{complete_decides}
use Rattle.claims.proofs.laws.complete_searches_decide.Goals as goal

pub returns : goal.returns
returns c = complete_decides
