use Rattle.std.proofs.Common.{vec_capacity}
use Rattle.cert_check.proofs.NoteLemmas.{bounded_start}
use Rattle.cert_check.proofs.bounded_trail.BoundedTrail.start.Goals as goal

pub invariant_of-result : goal.invariant_of-result
invariant_of-result c = rw c.requires.empty (bounded_start c.args.facts c.args.parts (vec_capacity c.args.notes) c.height.ensures.facts c.requires.enough)
