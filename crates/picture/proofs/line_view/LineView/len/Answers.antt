use Rattle.picture.proofs.LineLemmas.{spaced_is_line}
use Rattle.picture.proofs.line_view.LineView.len.Goals as goal

pub returns-clause-line : goal.returns-clause-line
returns-clause-line c = rw (← c.self.view_is) (spaced_is_line _ _ _ _ c.self.invariant.0 c.self.invariant.1)
