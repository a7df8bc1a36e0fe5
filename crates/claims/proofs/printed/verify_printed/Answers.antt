use Rattle.claims.proofs.RunLemmas.{has_plain}
use Rattle.claims.proofs.printed.verify_printed.Goals as goal

pub returns-clause-line : goal.returns-clause-line
returns-clause-line g c =
    let law = c.proofs_are_verified.ensures c.args.file.now c.args.options c.args.cert.now c.requires in
    has_plain c.args.file.now c.args.cert.now c.args.options.background _ _ c.run_check.result law.check c.run_check.ensures.writes

pub returns-clause-fails : goal.returns-clause-fails
returns-clause-fails g c =
    let law = c.proofs_are_verified.ensures c.args.file.now c.args.options c.args.cert.now c.requires in
    c.run_check.ensures.only_lemmas law.proof
