use Rattle.std.proofs.Common.{◌≡◌, ◌<◌, ℕ, List, length, Option, Ok, subst, ap, arith}
use Rattle.picture.specs.declared.line_id.Axis.TheVariants.{Across}
use Rattle.picture.specs.declared.line_id.LineId.{LineId}
use Rattle.picture.specs.Rows.{line_of, width_of}
use Rattle.justify.specs.declared.step.Step.{Step}
use Rattle.justify.specs.NewSteps.{Makes}
use Rattle.refused.proofs.tests.of_steps.draw.Goals as goal

pub add_step-requires : goal.add_step-requires
add_step-requires g c =
    let facts = c.args.book.now.facts in
    let line : LineId = record { axis = Across; at = c.args.at } in
    let has : c.args.at < length facts =
    (let e = ap length c.facts.ensures.value in
    let h = c.height.ensures.value in
    omega arith) in
    let P : Option Step → Type 0 = λ made. Makes c.clue.result.now line (line_of facts line) (Ok made) in
    c.new_steps_follow.ensures.can_add c.args.book.now c.clue.result.now line c.in-Some.step c.facts.ensures.account has (subst P c.in-Some.is c.in_ok-step.ensures.makes)
