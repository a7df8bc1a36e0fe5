use Rattle.claims.proofs.RunLemmas.{printed_line, printed_proof}
use Rattle.claims.proofs.printed.check_printed.Goals as goal

pub returns-clause-line : goal.returns-clause-line
returns-clause-line g c =
    printed_line c.args.bench.now _ _ c.args.background _ _ c.run_check.result c.published_pairs_are_accepted.ensures.accepted c.requires.printed c.requires.background c.run_check.ensures.writes

pub returns-clause-fails : goal.returns-clause-fails
returns-clause-fails g c =
    c.run_check.ensures.only (printed_proof c.args.bench.now _ _ c.args.background c.published_pairs_are_accepted.ensures.accepted c.requires.printed c.requires.background)
