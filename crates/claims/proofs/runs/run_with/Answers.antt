use Rattle.std.proofs.Common.{refl}
use Rattle.claims.proofs.runs.run_with.Goals as goal

pub returns : goal.returns
returns g c = record {
  after = _;
  output = refl;
  outcome = c.run-ended.ensures.outcome;
  right_status = c.run-ended.ensures.status;
  answers = rw c.new-text.ensures.items at c.run-ended.ensures.comes;
}
