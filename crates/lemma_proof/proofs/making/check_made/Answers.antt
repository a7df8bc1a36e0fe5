use Rattle.lemma_proof.proofs.MakingLemmas.{accepted}
use Rattle.lemma_proof.proofs.making.check_made.Goals as goal

pub returns-in-Ok-clause-makes : goal.returns-in-Ok-clause-makes
returns-in-Ok-clause-makes g c =
    accepted c.args.picture.now c.args.givens.now c.args.cert c.requires.names c.requires.form
    (c.is_writable.ensures.0 c.if-not-is_writable.false) c.in-Ok.ensures.first c.in-Ok.ensures.proof c.in-Ok.ensures.unique
