use Rattle.std.proofs.Common.{refl}
use Rattle.second_search.proofs.FindLemmas.{can_close}
use Rattle.second_search.proofs.WithinLemmas.{scene_settled}
use Rattle.second_search.proofs.KnownLaws.{clues_are_of_lines, sound_facts}
use Rattle.second_search.proofs.near.closed.Goals as goal

pub settle_afresh-requires : goal.settle_afresh-requires
settle_afresh-requires g c =
    let s = c.args.scene.now in
    can_close s.clues.now s.picture.now s.facts.now s.facts.now _
    (clues_are_of_lines.sizes s.picture.now) c.requires.is_scene.has_clues c.requires.is_scene.sound.same_shape refl c.requires.tall c.requires.wide

pub returns-in-Ok-clause-scene : goal.returns-in-Ok-clause-scene
returns-in-Ok-clause-scene g c =
    let s = c.args.scene.now in
    scene_settled sound_facts s.clues.now s.givens.now s.picture.now s.facts.now c.in-Ok.facts c.requires.is_scene c.in-Ok.ensures.settles
