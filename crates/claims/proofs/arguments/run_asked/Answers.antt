use Rattle.claims.proofs.OutcomeLemmas.{comes_to}
use Rattle.claims.proofs.arguments.run_asked.Goals as goal

pub returns : goal.returns
returns g c = comes_to _ _ _ _ _ _ c.run.ensures.status c.sessions_are_true.ensures c.run.ensures.comes
