use Rattle.edits.proofs.IdleLemmas.{place_is_some}
use Rattle.edits.proofs.refusal.is_there.Goals as goal

pub returns-in-AddColour : goal.returns-in-AddColour
returns-in-AddColour c = rw (c.in-AddColour.is, c.is_some.ensures, c.number_of.ensures.value) (place_is_some c.in-AddColour.rgb c.args.palette.now.triples)
