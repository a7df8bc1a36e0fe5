use Rattle.grade.proofs.StartLaws.{pictures_fill}
use Rattle.grade.proofs.laws.pictures_fill_starts.Goals as goal

pub returns : goal.returns
returns c = pictures_fill
