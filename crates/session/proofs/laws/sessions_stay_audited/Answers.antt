use Rattle.session.proofs.MachineLemmas.{stay_audited}
use Rattle.session.proofs.laws.sessions_stay_audited.Goals as goal

pub returns : goal.returns
returns c = stay_audited
