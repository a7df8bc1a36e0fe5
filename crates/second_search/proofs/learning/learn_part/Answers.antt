use Rattle.second_search.proofs.LearnLemmas.{learnt_none, learnt_one, lines_fit}
use Rattle.second_search.proofs.KnownLaws.{clues_are_of_lines, fillings_are_of_facts}
use Rattle.second_search.proofs.learning.learn_part.Goals as goal

pub make_proof-requires-clause-wide : goal.make_proof-requires-clause-wide
make_proof-requires-clause-wide g c =
    let s = c.args.scene.now in
    (lines_fit clues_are_of_lines s.clues.now s.picture.now _ c.requires.can.is_scene.has_clues c.requires.can.tall c.requires.can.wide).0

pub make_proof-requires-clause-tall : goal.make_proof-requires-clause-tall
make_proof-requires-clause-tall g c =
    let s = c.args.scene.now in
    (lines_fit clues_are_of_lines s.clues.now s.picture.now _ c.requires.can.is_scene.has_clues c.requires.can.tall c.requires.can.wide).1

pub returns-in-Proof-clause-ends : goal.returns-in-Proof-clause-ends
returns-in-Proof-clause-ends g c =
    let s = c.args.scene.now in
    learnt_none fillings_are_of_facts s.clues.now s.givens.now s.facts.now s.picture.now c.requires.can.is_scene c.args.cells.now _ c.outside_of-givens.ensures
    (rw c.in-Proof.is at c.in_ok-make_proof.ensures.makes).no_other

pub returns-in-Other-clause-ends : goal.returns-in-Other-clause-ends
returns-in-Other-clause-ends g c =
    let s = c.args.scene.now in
    learnt_one fillings_are_of_facts s.clues.now s.givens.now s.facts.now s.picture.now c.requires.can.is_scene c.args.cells.now _ c.requires.part c.outside_of-givens.ensures c.in-Other.picture
    (rw c.in-Other.is at c.in_ok-make_proof.ensures.makes)
