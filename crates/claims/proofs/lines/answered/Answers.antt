use Rattle.claims.proofs.LineLemmas.{answers_all}
use Rattle.claims.proofs.lines.answered.Goals as goal

pub returns : goal.returns
returns g c = answers_all c.args.input.now _ _ _ _ _ _ c.new-text.ensures.items c.in_ok-run_session.ensures.truth
