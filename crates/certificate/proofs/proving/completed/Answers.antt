use Rattle.certificate.proofs.FindLemmas.{trees_find}
use Rattle.certificate.proofs.proving.completed.Goals as goal

pub returns-in_ok-decided-in-Undecided-Complete-clause-finds : goal.returns-in_ok-decided-in-Undecided-Complete-clause-finds
returns-in_ok-decided-in-Undecided-Complete-clause-finds g c =
    let s = c.args.scene.now in
    trees_find s.picture.now s.givens.now c.growth_to.result _ _ c.args.reach c.in_ok-decided-in-Undecided-Complete.decided c.growth_to.ensures c.in_ok-decided-in-Undecided-Complete.ensures.decides
