use Rattle.grade.proofs.SettleLemmas.{runs_settle}
use Rattle.grade.proofs.laws.runs_settle.Goals as goal

pub returns : goal.returns
returns c = runs_settle
