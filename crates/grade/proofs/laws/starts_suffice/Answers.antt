use Rattle.grade.proofs.StartLaws.{starts_suffice}
use Rattle.grade.proofs.laws.starts_suffice.Goals as goal

pub returns : goal.returns
returns c = starts_suffice
