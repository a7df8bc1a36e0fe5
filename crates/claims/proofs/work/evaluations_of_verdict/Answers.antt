use Rattle.claims.proofs.WorkLemmas.{few_told}
use Rattle.claims.proofs.work.evaluations_of_verdict.Goals as goal

pub returns : goal.returns
returns g c splits allows =
    let told = c.verdict.follows.holds-at-none in
    rw c.work.ensures (few_told c.args.bench.now c.verdict.follows.lender-at-none c.verdict.result c.in_ok-verdict.field-0 splits c.in_ok-verdict.was told.1.1 allows)
