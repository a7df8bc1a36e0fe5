use Rattle.answers.proofs.ProveLemmas.{made_shown_in}
use Rattle.answers.proofs.prove.made_for.Goals as goal

pub returns : goal.returns
returns c =
    made_shown_in c.args.picture.now c.args.givens.now c.args.options c.reach_for-reach.result c.in_ok-made.made c.shown_made.result
    c.reach_for-reach.ensures c.in_ok-made.ensures.finds c.shown_made.ensures
