use Rattle.edits.specs.Design.{design_of}
use Rattle.edits.proofs.DesignLemmas.{all_marked as marks_are_givens}
use Rattle.live_audit.proofs.LearnLemmas.{kept_other}
use Rattle.live_audit.proofs.judging.other_kept.Goals as goal

pub returns : goal.returns
returns c =
    let d = c.args.document.now in
    kept_other (design_of d) c.args.audit.now.clues c.args.audit.now.book.facts d.givens c.args.keeper.now c.other.result _ (record { set = c.know.ensures.givens; are = marks_are_givens d.picture d.givens d.inside }) c.requires.audited.clues_are
    c.requires.answers c.other.ensures
