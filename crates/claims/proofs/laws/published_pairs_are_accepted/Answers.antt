use Rattle.claims.proofs.PairLemmas.{accepted, made}
use Rattle.claims.proofs.laws.published_pairs_are_accepted.Goals as goal

pub returns-clause-accepted : goal.returns-clause-accepted
returns-clause-accepted g c =
    accepted c.round_trip-2.ensures c.round_trip.ensures c.args.bench.now c.document-document.result.now c.document-document.ensures.value c.len.ensures.palette c.height.ensures.picture

pub returns-clause-made : goal.returns-clause-made
returns-clause-made g c =
    made c.round_trip-2.ensures c.round_trip.ensures c.args.bench.now c.document-document.result.now c.document-document.ensures.value c.len.ensures.palette c.height.ensures.picture
