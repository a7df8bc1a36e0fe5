use Rattle.std.proofs.lemmas.Result.{IfOk-weaker}
use Rattle.justify.specs.Premises.{Gathers}
use Rattle.justify.specs.Needs.{AreNeeded}
use Rattle.justify.proofs.MakingLemmas.{are_needed}
use Rattle.justify.proofs.needs.needed_for.Goals as goal

pub returns : goal.returns
returns c =
    IfOk-weaker _ (Gathers c.complement.new.masks) (AreNeeded c.args.clue.now c.args.left.now c.args.drawn.now)
    (λ premises g. are_needed c.args.clue.now c.args.drawn.now c.args.left.now c.leave_out.new.left c.complement.new.masks c.leave_out.ensures c.complement.ensures premises g)
    c.from_masks.ensures
