use Rattle.certificate.proofs.BaseLemmas.{bases_are_one}
use Rattle.certificate.proofs.MadeLemmas.{blank_shape, root_is, root_scene}
use Rattle.second_search.proofs.KnownLaws.{sound_facts}
use Rattle.certificate.proofs.root.root_facts.Goals as goal

pub set_givens-requires-clause-same_shape : goal.set_givens-requires-clause-same_shape
set_givens-requires-clause-same_shape c =
    blank_shape c.args.picture.now c.in_ok-facts.facts c.height.result c.width.result c.height.ensures.picture c.height.ensures.value c.width.ensures.value c.in_ok-facts.ensures.value

pub returns-clause-scene : goal.returns-clause-scene
returns-clause-scene c =
    root_scene bases_are_one sound_facts c.args.picture.now c.set_givens.new.facts c.args.givens.now c.args.cells.now c.height.ensures.picture c.requires
    (root_is c.args.picture.now c.in_ok-facts.facts c.set_givens.new.facts c.args.cells.now c.height.result c.width.result c.height.ensures.value c.width.ensures.value c.in_ok-facts.ensures.value
    c.in-Ok.ensures.facts)
