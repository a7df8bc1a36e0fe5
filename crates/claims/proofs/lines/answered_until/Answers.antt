use Rattle.claims.proofs.LineLemmas.{until}
use Rattle.claims.proofs.lines.answered_until.Goals as goal

pub returns : goal.returns
returns g c = until _ _ _ _ _ _ _ c.run_session.ensures.truth
