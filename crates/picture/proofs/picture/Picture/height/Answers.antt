use Rattle.picture.proofs.FlatLemmas.{facts}
use Rattle.picture.proofs.picture.Picture.height.Goals as goal

pub returns-clause-picture : goal.returns-clause-picture
returns-clause-picture c = (facts _ _ _ _ c.self.view_is c.self.invariant).picture
