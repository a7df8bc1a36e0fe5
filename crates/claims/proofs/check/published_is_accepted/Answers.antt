use Rattle.std.proofs.Common.{sym, ◌∙◌}
use Rattle.claims.proofs.SolutionLemmas.{if_accepted, only_published}
use Rattle.claims.proofs.check.published_is_accepted.Goals as goal

pub returns : goal.returns
returns c accepted =
    only_published c.args.file.now c.args.background c.args.givens.now c.args.cert.now
    (if_accepted c.run_check.result _ (sym c.is_ok.ensures.value ∙ accepted) c.run_check.ensures.unique)
