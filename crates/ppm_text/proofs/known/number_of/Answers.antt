use Rattle.ppm_text.proofs.KnownLemmas.{known_after}
use Rattle.ppm_text.proofs.known.number_of.Goals as goal

pub returns-clause-known : goal.returns-clause-known
returns-clause-known c = known_after c.args.palette.now c.args.triple c.args.known.now c.slot_of-slot.result c.in_ok-number.number c.find_or_add.new.palette c.in_ok-number.ensures c.requires.known
