use Rattle.std.proofs.Common.{◌∙◌}
use Rattle.second_search.proofs.KnownLaws.{clues_are_of_lines}
use Rattle.certificate.proofs.FindLemmas.{few_for, other_decided, tree_made, tree_written}
use Rattle.certificate.proofs.MakeLemmas.{can_close}
use Rattle.certificate.proofs.trees.decide_by_trees.Goals as goal

pub grown-requires : goal.grown-requires
grown-requires g c =
    let s = c.args.scene.now in
    can_close clues_are_of_lines s.picture.now s.facts.now s.clues.now _ c.requires.can c.requires.is_scene.sound.same_shape

pub of_tree-requires-clause-givens : goal.of_tree-requires-clause-givens
of_tree-requires-clause-givens g c = rw c.in_ok-givens-in-Some-Tree-Kept.ensures c.requires.names.ordered

pub of_tree-requires-clause-lines : goal.of_tree-requires-clause-lines
of_tree-requires-clause-lines g c =
    (tree_written c.args.scene.now c.args.cells.now _ c.requires c.in-Some-Tree-Kept.lines.items
    (rw (c.in-Some-Tree-Kept.is, c.in-Some-Tree-Kept.field-0-is, c.in-Some-Tree-Kept.field-0-0-is) at c.in_ok-decided.ensures.decides).0).0

pub returns-in_ok-givens-in-Some-Tree-Kept-clause-decides : goal.returns-in_ok-givens-in-Some-Tree-Kept-clause-decides
returns-in_ok-givens-in-Some-Tree-Kept-clause-decides g c =
    tree_made c.args.scene.now c.args.cells.now _ c.requires c.in-Some-Tree-Kept.lines.items c.of_tree.result
    (rw (c.in-Some-Tree-Kept.is, c.in-Some-Tree-Kept.field-0-is, c.in-Some-Tree-Kept.field-0-0-is) at c.in_ok-decided.ensures.decides).0 c.of_tree.ensures.cert
    (c.of_tree.ensures.givens ∙ c.in_ok-givens-in-Some-Tree-Kept.ensures) c.of_tree.ensures.lines (rw c.in_ok-givens-in-Some-Tree-Kept.ensures at c.of_tree.ensures.form)

pub returns-in-Some-OtherPicture-clause-decides : goal.returns-in-Some-OtherPicture-clause-decides
returns-in-Some-OtherPicture-clause-decides g c =
    other_decided c.args.scene.now c.args.cells.now _ c.requires c.in-Some-OtherPicture.other (rw (c.in-Some-OtherPicture.is, c.in-Some-OtherPicture.field-0-is) at c.in_ok-decided.ensures.decides)

pub returns-in-None-clause-decides : goal.returns-in-None-clause-decides
returns-in-None-clause-decides g c =
    let bounded = c.in_ok-decided.ensures.bounded c.in-None.is in
    (bounded, rw c.in-None.is at c.in_ok-decided.ensures.reached bounded)

pub returns-in_err-decided-clause-few : goal.returns-in_err-decided-clause-few
returns-in_err-decided-clause-few g c =
    let s = c.args.scene.now in
    few_for c.args.growth s.picture.now s.facts.now _ _ c.requires.is_scene.sound.same_shape c.grown.ensures.few

pub returns-in_err-givens-in-Some-Tree-Kept-clause-few : goal.returns-in_err-givens-in-Some-Tree-Kept-clause-few
returns-in_err-givens-in-Some-Tree-Kept-clause-few g c =
    let s = c.args.scene.now in
    few_for c.args.growth s.picture.now s.facts.now _ _ c.requires.is_scene.sound.same_shape c.grown.ensures.few

pub returns-in_ok-givens-in-Some-Tree-Kept-clause-few : goal.returns-in_ok-givens-in-Some-Tree-Kept-clause-few
returns-in_ok-givens-in-Some-Tree-Kept-clause-few g c =
    let s = c.args.scene.now in
    few_for c.args.growth s.picture.now s.facts.now _ _ c.requires.is_scene.sound.same_shape c.grown.ensures.few

pub returns-in-Some-OtherPicture-clause-few : goal.returns-in-Some-OtherPicture-clause-few
returns-in-Some-OtherPicture-clause-few g c =
    let s = c.args.scene.now in
    few_for c.args.growth s.picture.now s.facts.now _ _ c.requires.is_scene.sound.same_shape c.grown.ensures.few

pub returns-in-None-clause-few : goal.returns-in-None-clause-few
returns-in-None-clause-few g c =
    let s = c.args.scene.now in
    few_for c.args.growth s.picture.now s.facts.now _ _ c.requires.is_scene.sound.same_shape c.grown.ensures.few
