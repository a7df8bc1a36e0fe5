use Rattle.std.proofs.Common.{◌∙◌, Some}
use Rattle.second_search.proofs.AloneLemmas.{closable_alone}
use Rattle.second_search.proofs.WithinLemmas.{fixed_true, near_true}
use Rattle.second_search.proofs.KnownLaws.{books_are_their_clues, closing_keeps_fillings, clues_are_of_lines, fillings_are_of_facts, only_is_closed}
use Rattle.second_search.proofs.part_decision.climb_part.Goals as goal

pub returns-in-Some-clause-ends : goal.returns-in-Some-clause-ends
returns-in-Some-clause-ends g c =
    let s = c.args.scene.now in
    near_true fillings_are_of_facts s.clues.now s.givens.now s.facts.now s.picture.now c.requires.can.is_scene c.args.cells.now _ c.in-Some.picture c.in-Some.is c.in_ok-picture.ensures.other

pub search_part-requires-clause-can : goal.search_part-requires-clause-can
search_part-requires-clause-can g c = rw c.find_near.ensures.same_longest c.requires.can

pub returns-in_default-ending-clause-ends : goal.returns-in_default-ending-clause-ends
returns-in_default-ending-clause-ends g c =
    let s = c.args.scene.now in
    let e = c.in_ok-ending.ensures.ends in
    fixed_true clues_are_of_lines books_are_their_clues closing_keeps_fillings only_is_closed fillings_are_of_facts s.clues.now s.givens.now s.facts.now s.picture.now c.requires.can.is_scene
    c.args.cells.now (Some c.args.bounds.again_splits) _ e.0 c.in_default-ending.not-BrokenOff e.1.1

pub find_near-requires-2 : goal.find_near-requires-2
find_near-requires-2 g c = rw (c.search_part.ensures.same_longest ∙ c.find_near.ensures.same_longest) c.requires.can

pub returns-in-Some-2-clause-ends : goal.returns-in-Some-2-clause-ends
returns-in-Some-2-clause-ends g c =
    let s = c.args.scene.now in
    near_true fillings_are_of_facts s.clues.now s.givens.now s.facts.now s.picture.now c.requires.can.is_scene c.args.cells.now _ c.in-Some-2.picture c.in-Some-2.is c.in_ok-picture-2.ensures.other

pub find_filling-requires-clause-closable : goal.find_filling-requires-clause-closable
find_filling-requires-clause-closable g c =
    let s = c.args.scene.now in
    let can = rw (← (c.learn_part.ensures.same_longest ∙ (c.find_near-2.ensures.same_longest ∙ (c.search_part.ensures.same_longest ∙ c.find_near.ensures.same_longest)))) at c.requires.can in
    closable_alone clues_are_of_lines s.clues.now c.args.cells.now s.picture.now c.in_ok-facts.facts _ c.requires.can.is_scene.has_clues c.in_ok-facts.ensures.outside can.tall can.wide

pub returns-in-None-clause-ends : goal.returns-in-None-clause-ends
returns-in-None-clause-ends g c = rw (← c.in_ok-facts.ensures.alone) (rw c.in-None.is at c.in_ok-find_filling.ensures.finds)

pub returns-clause-ends : goal.returns-clause-ends
returns-clause-ends g c = rw (← c.in_ok-facts.ensures.alone) (rw c.in-Some-4.is at c.in_ok-find_filling.ensures.finds)
