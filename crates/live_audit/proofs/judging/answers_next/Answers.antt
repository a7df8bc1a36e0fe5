use Rattle.live_audit.proofs.CarryLemmas.{answers_there}
use Rattle.second_search.proofs.KnownLaws.{same_cells_are_equal}
use Rattle.live_audit.proofs.judging.answers_next.Goals as goal

pub returns-clause-answers : goal.returns-clause-answers
returns-clause-answers c =
    let s = c.scene_of-after.ensures in
    let e = c.in_ok-keeper.ensures in
    answers_there same_cells_are_equal c.args.new.now c.args.after.now.clues _ c.args.after.now.book.facts _ _ _ c.in_ok-keeper.keeper s.clues s.facts s.givens s.picture s.cells e.parts e.true_answers
