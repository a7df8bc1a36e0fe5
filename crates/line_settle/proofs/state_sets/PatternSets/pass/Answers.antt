use Rattle.line_settle.proofs.SweepLemmas.{either_states}
use Rattle.line_settle.proofs.state_sets.PatternSets.pass.Goals as goal

pub returns : goal.returns
returns g c = λ pattern mask all marked are by from. record {
  all_are = c.pass.ensures pattern mask all by from.all_are;
  marked_are = rw c.or.ensures (either_states pattern _ _ _ _ (c.pass-2.ensures pattern mask marked by from.marked_are) (c.pass_drawn.ensures pattern all are from.all_are));
}
