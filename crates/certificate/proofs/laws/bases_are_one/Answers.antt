use Rattle.certificate.proofs.BaseLemmas.{bases_are_one}
use Rattle.certificate.proofs.laws.bases_are_one.Goals as goal

pub returns : goal.returns
returns c = bases_are_one
