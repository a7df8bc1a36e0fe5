use Rattle.claims.proofs.RunLemmas.{has_published}
use Rattle.claims.proofs.printed.verify_published.Goals as goal

pub returns-clause-line : goal.returns-clause-line
returns-clause-line g c =
    let law = c.published_proofs_are_verified.ensures c.args.file.now c.args.givens.now c.args.options c.args.cert.now c.requires in
    has_published c.args.file.now c.args.givens.now c.args.cert.now c.args.options.background law.named _ _ c.run_check.result law.check c.run_check.ensures.writes

pub returns-clause-fails : goal.returns-clause-fails
returns-clause-fails g c =
    let law = c.published_proofs_are_verified.ensures c.args.file.now c.args.givens.now c.args.options c.args.cert.now c.requires in
    c.run_check.ensures.only_lemmas law.proof
