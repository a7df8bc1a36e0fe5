use Rattle.justify.proofs.LineMaskLemmas.{complemented}
use Rattle.justify.proofs.masks.complement.Goals as goal

pub returns : goal.returns
returns c = complemented _ _ _ c.loop-place.auto.masks c.loop-place-test.false c.loop-place.invariant.small c.loop-place.invariant.done
