use Rattle.std.proofs.Common.{◌<◌, length, subst, sym}
use Rattle.picture.proofs.PaletteLemmas.{popped}
use Rattle.picture.proofs.palette.Palette.pop_last.Goals as goal

pub invariant_of-self : goal.invariant_of-self
invariant_of-self c = popped _ _ _ c.pop.result c.self.invariant c.pop.ensures.keys (subst (λ colours. 1 < length colours.triples) (sym c.self.view_is) c.requires) c.pop.ensures.unique
