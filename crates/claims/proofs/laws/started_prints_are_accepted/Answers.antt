use Rattle.claims.proofs.PairLemmas.{started}
use Rattle.claims.proofs.PrintLemmas.{started_printed}
use Rattle.claims.proofs.laws.started_prints_are_accepted.Goals as goal

pub returns : goal.returns
returns c = started_printed (started c.round_trip-2.ensures c.round_trip.ensures)
