use Rattle.grade.proofs.SettleLemmas.{runs_are_one}
use Rattle.grade.proofs.laws.runs_are_one.Goals as goal

pub returns : goal.returns
returns c = runs_are_one
