use Rattle.std.proofs.Common.{refl}
use Rattle.retract.proofs.standing.are_known.Goals as goal

pub excludes_all-requires-clause-place : goal.excludes_all-requires-clause-place
excludes_all-requires-clause-place c = c.requires.inside _ (record { which = c.loop-premise.premise-index; within = c.loop-premise-test.true; here = refl })
