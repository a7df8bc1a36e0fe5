use Rattle.claims.proofs.ProofLemmas.{proofs_verified}
use Rattle.claims.proofs.laws.proofs_are_verified.Goals as goal

pub returns : goal.returns
returns c = proofs_verified
