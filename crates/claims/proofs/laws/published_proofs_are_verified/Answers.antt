use Rattle.claims.proofs.ProofLemmas.{published_verified}
use Rattle.claims.proofs.laws.published_proofs_are_verified.Goals as goal

pub returns : goal.returns
returns c = published_verified
