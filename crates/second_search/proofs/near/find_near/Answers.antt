use Rattle.std.proofs.Common.{◌∙◌}
use Rattle.second_search.proofs.AloneLemmas.{alone_none}
use Rattle.second_search.proofs.KnownLaws.{only_is_closed}
use Rattle.second_search.proofs.near.find_near.Goals as goal

pub find_inside-requires-clause-can : goal.find_inside-requires-clause-can
find_inside-requires-clause-can g c = rw c.loop-i.invariant.same_longest c.requires

pub find_inside-requires-clause-home : goal.find_inside-requires-clause-home
find_inside-requires-clause-home g c =
    let s = c.args.scene.now in
    c.in_ok-home.ensures.alone ∙ alone_none only_is_closed c.empty.result s.picture.now s.facts.now c.requires.is_scene.is_picture c.empty.ensures.none
