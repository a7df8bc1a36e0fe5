use Rattle.std.proofs.Common.{◌∙◌}
use Rattle.certificate.specs.declared.proving.Reach.TheVariants.{Bounded}
use Rattle.certificate.proofs.FindLemmas.{lemmas_find, taken_found, trees_find}
use Rattle.certificate.proofs.proving.proof_within.Goals as goal

pub told_tree-requires : goal.told_tree-requires
told_tree-requires g c = rw c.decide_by_trees.ensures.same_longest c.requires

pub make_proof-requires-clause-inside : goal.make_proof-requires-clause-inside
make_proof-requires-clause-inside g c = c.requires.inside

pub make_proof-requires-clause-wide : goal.make_proof-requires-clause-wide
make_proof-requires-clause-wide g c = rw (c.told_tree.ensures.same_longest ∙ c.decide_by_trees.ensures.same_longest) c.requires.can.wide

pub make_proof-requires-clause-tall : goal.make_proof-requires-clause-tall
make_proof-requires-clause-tall g c = rw (c.told_tree.ensures.same_longest ∙ c.decide_by_trees.ensures.same_longest) c.requires.can.tall

pub returns-then-matches-clause-finds : goal.returns-then-matches-clause-finds
returns-then-matches-clause-finds g c =
    let s = c.args.scene.now in
    trees_find s.picture.now s.givens.now c.growth_to.result _ _ Bounded c.in_ok-tree.tree c.growth_to.ensures c.in_ok-tree.ensures.decides

pub returns-then-straight-clause-finds : goal.returns-then-straight-clause-finds
returns-then-straight-clause-finds g c =
    let s = c.args.scene.now in
    let tree = trees_find s.picture.now s.givens.now c.growth_to.result _ _ Bounded c.in_ok-tree.tree c.growth_to.ensures c.in_ok-tree.ensures.decides in
    let told = lemmas_find s.picture.now s.givens.now c.in_ok-told.told c.in_ok-told.ensures.makes in
    taken_found s.picture.now s.givens.now Bounded c.or_shorter-best.result c.in_ok-by_steps.by_steps c.in_ok-by_tree.by_tree c.or_shorter-best.ensures.one
    (rw c.in_ok-by_steps.ensures told) (rw c.in_ok-by_tree.ensures tree)

pub returns-clause-finds : goal.returns-clause-finds
returns-clause-finds g c =
    let s = c.args.scene.now in
    let tree = trees_find s.picture.now s.givens.now c.growth_to.result _ _ Bounded c.in_ok-tree.tree c.growth_to.ensures c.in_ok-tree.ensures.decides in
    let told = lemmas_find s.picture.now s.givens.now c.in_ok-told.told c.in_ok-told.ensures.makes in
    let best =
    taken_found s.picture.now s.givens.now Bounded c.or_shorter-best.result c.in_ok-by_steps.by_steps c.in_ok-by_tree.by_tree c.or_shorter-best.ensures.one
    (rw c.in_ok-by_steps.ensures told) (rw c.in_ok-by_tree.ensures tree) in
    let learnt = lemmas_find s.picture.now s.givens.now c.in_ok-learnt.learnt c.in_ok-learnt.ensures.makes in
    taken_found s.picture.now s.givens.now Bounded c.or_shorter-best-2.result c.in_ok-by_lemmas.by_lemmas c.or_shorter-best.result c.or_shorter-best-2.ensures.one
    (rw c.in_ok-by_lemmas.ensures learnt) best
