use Rattle.std.proofs.Common.{arith}
use Rattle.std.proofs.Math.Pow.{pow_mono}
use Rattle.line_settle.proofs.StateSetLemmas.{between}
use Rattle.line_settle.proofs.state_sets.states_between.Goals as goal

pub minus-requires : goal.minus-requires
minus-requires g c = let m = pow_mono c.requires.in_order in omega (arith, c.place-2.ensures.value, c.place.ensures.value)

pub returns : goal.returns
returns g c = λ q. rw (c.minus.ensures, c.place.ensures.value, c.place-2.ensures.value) (between c.args.start c.args.end q)
