use Rattle.claims.proofs.PairLemmas.{unique}
use Rattle.claims.proofs.laws.unique_pictures_are_published.Goals as goal

pub returns : goal.returns
returns g c =
    unique c.round_trip-2.ensures c.round_trip.ensures c.args.bench.now c.document-document.result.now c.document-document.ensures.value c.len.ensures.palette c.height.ensures.picture
