use Rattle.claims.proofs.PrintLemmas.{printed}
use Rattle.claims.proofs.laws.printed_bytes_are_accepted.Goals as goal

pub returns : goal.returns
returns g c = printed c.args.bench.now c.published_pairs_are_accepted.ensures.accepted
