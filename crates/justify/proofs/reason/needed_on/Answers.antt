use Rattle.std.proofs.Common.{◌≡◌, length, ◌∙◌, arith}
use Rattle.std.proofs.lemmas.Result.{IfOk-weaker}
use Rattle.justify.specs.Needs.{AreNeeded}
use Rattle.justify.specs.Reasons.{Supports}
use Rattle.justify.proofs.ReasonLemmas.{forces_mark, supports}
use Rattle.justify.proofs.StandingLemmas.{mentions_same}
use Rattle.justify.proofs.reason.needed_on.Goals as goal

pub leave_rest-requires-clause-inside : goal.leave_rest-requires-clause-inside
leave_rest-requires-clause-inside c =
    mentions_same _ _ _ c.as_slice.ensures.value (λ i m. let l = c.requires.inside i m in omega arith)

pub needed_for-requires-clause-forced : goal.needed_for-requires-clause-forced
needed_for-requires-clause-forced c =
    let clue = c.args.clue.now in
    let left = c.leave_rest.new.left in
    let len : length left ≡ c.args.cells = c.leave_rest.auto.left ∙ c.requires.left_room in
    forces_mark clue c.args.premises.now left c.mark.new.masks c.args.exclusion.at c.args.exclusion.colour (rw (← c.as_slice.ensures.value) c.leave_rest.ensures) c.mark.ensures
    (rw len c.requires.forced)

pub returns : goal.returns
returns c =
    let clue = c.args.clue.now in
    let left = c.leave_rest.new.left in
    let len : length left ≡ c.args.cells = c.leave_rest.auto.left ∙ c.requires.left_room in
    IfOk-weaker _ (AreNeeded clue left c.mark.new.masks) (Supports clue c.args.cells c.args.premises.now c.args.exclusion.at c.args.exclusion.colour)
    (λ premises a.
    rw (← len) (supports clue c.args.premises.now left c.mark.new.masks c.args.exclusion.at c.args.exclusion.colour (rw (← c.as_slice.ensures.value) c.leave_rest.ensures) c.mark.ensures premises a))
    c.needed_for.ensures
