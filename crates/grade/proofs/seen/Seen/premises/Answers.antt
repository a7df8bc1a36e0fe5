use Rattle.std.proofs.lemmas.Result.{IfOk-weaker}
use Rattle.std.proofs.Common.{◌≡◌, Vec, Global}
use Rattle.justify.specs.declared.premise.Premise.{Premise}
use Rattle.grade.specs.Needs.{AreNeeded, premises_of}
use Rattle.grade.proofs.NeedLemmas.{needed}
use Rattle.grade.proofs.seen.Seen.premises.Goals as goal

pub returns : goal.returns
returns c =
    let clue = c.args.clue.now in
    let seen = c.args.self.now in
    IfOk-weaker _ (λ (premises : Vec Premise Global). premises.items ≡ premises_of c.leave_out.new.left) (λ premises. AreNeeded clue seen.before seen.after premises.items)
    (λ premises is. needed clue seen.before seen.after _ _ c.note_drawn.new.drawn _ c.leave_out.new.left c.as_slice-before.ensures.value c.as_slice-after.ensures.value c.copy_from_slice.ensures.after
    c.note_drawn.ensures.drawn c.leave_out.ensures premises.items is)
    c.gather.ensures
