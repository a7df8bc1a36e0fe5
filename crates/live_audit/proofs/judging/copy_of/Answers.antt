use Rattle.live_audit.proofs.CopyLemmas.{copied_by}
use Rattle.live_audit.proofs.judging.copy_of.Goals as goal

pub returns : goal.returns
returns c =
    let s = c.scene_of-scene in
    let e = c.carry.ensures in
    copied_by s.result.clues.now s.result.givens.now c.args.audit.now.book.facts s.result.picture.now s.result.facts.now c.args.keeper.now c.carry.result s.ensures.facts s.ensures.scene
    c.requires.answers.parts c.requires.none e.parts e.carries
