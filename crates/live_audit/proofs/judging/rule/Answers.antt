use Rattle.std.proofs.Common.{refl}
use Rattle.live_audit.proofs.VerdictLemmas.{few_counted, heard}
use Rattle.second_search.proofs.KnownLaws.{allowances_break_off, same_cells_are_equal}
use Rattle.live_audit.proofs.judging.rule.Goals as goal

pub returns-clause-judges : goal.returns-clause-judges
returns-clause-judges g c =
    let h = c.judge.follows.holds-at-none in
    let s = c.scene_of-scene.ensures in
    let all = heard same_cells_are_equal allowances_break_off c.args.document.now c.args.audit.now.clues _ c.args.audit.now.book.facts _ _ _ c.args.allowance c.args.keeper.now
    c.judge.follows.lender-at-none c.judge.result c.in_ok-judged.judged c.was_decided.result _ _ _ _ _ _ _ _
    s.clues s.facts s.givens s.picture s.cells c.requires.audited.clues_are c.was_decided.ensures c.in_ok-judged.was c.in_ok-judged.ensures.answer h.0 h.1 h.2 in
    all.judges

pub returns-clause-answers : goal.returns-clause-answers
returns-clause-answers g c =
    let h = c.judge.follows.holds-at-none in
    let s = c.scene_of-scene.ensures in
    let all = heard same_cells_are_equal allowances_break_off c.args.document.now c.args.audit.now.clues _ c.args.audit.now.book.facts _ _ _ c.args.allowance c.args.keeper.now
    c.judge.follows.lender-at-none c.judge.result c.in_ok-judged.judged c.was_decided.result _ _ _ _ _ _ _ _
    s.clues s.facts s.givens s.picture s.cells c.requires.audited.clues_are c.was_decided.ensures c.in_ok-judged.was c.in_ok-judged.ensures.answer h.0 h.1 h.2 in
    all.answers

pub returns-clause-few : goal.returns-clause-few
returns-clause-few g c =
    let s = c.scene_of-scene.ensures in
    let counts = c.judge.ensures.counts in
    few_counted c.args.allowance c.args.audit.now.book.facts _ counts.0 _ _ _ _ refl counts.1 (rw s.facts at counts.2)
