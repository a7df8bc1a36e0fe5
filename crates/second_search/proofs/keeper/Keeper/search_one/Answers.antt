use Rattle.std.proofs.Common.{arith}
use Rattle.second_search.proofs.DrawLemmas.{few_once}
use Rattle.second_search.proofs.VerdictLemmas.{done_none, known_before, part_is, searched_once}
use Rattle.second_search.proofs.keeper.Keeper.search_one.Goals as goal

pub returns-in_default-clause-ends : goal.returns-in_default-clause-ends
returns-in_default-clause-ends g c =
    let s = c.args.scene.now in
    let part = c.index-part.result.now in
    let here = part_is c.self.inside.kept.items c.args.self.now c.args.i part c.self.view_is c.requires.place c.index-part.ensures in
    done_none _ _ (omega arith) (known_before s.clues.now s.facts.now s.picture.now c.args.allowance c.args.self.now c.args.i part here c.in_default.not-Unknown)

pub returns-clause-ends : goal.returns-clause-ends
returns-clause-ends g c =
    let s = c.args.scene.now in
    let part = c.index-part.result.now in
    let here = part_is c.self.inside.kept.items c.args.self.now c.args.i part c.self.view_is c.requires.place c.index-part.ensures in
    let done = c.in_ok-searched in
    searched_once s.clues.now s.facts.now s.picture.now c.args.allowance c.args.self.now c.args.i part done.searched.ending done.searched.splits _ _ _ here c.in-Unknown.is done.ensures.ends
    c.decide_part.ensures.calls done.ensures.called (omega arith) (omega arith)

pub returns-clause-spent : goal.returns-clause-spent
returns-clause-spent g c =
    few_once c.args.allowance c.args.scene.now.facts.now _ _ c.height.ensures.facts.has_row c.decide_part.ensures.few (omega arith)
