use Rattle.ppm_text.proofs.KnownLemmas.{background_known}
use Rattle.ppm_text.proofs.known.background_alone.Goals as goal

pub returns : goal.returns
returns c = background_known c.args.palette.now.triples c.rgb-colour.result 256 c.rgb-colour.ensures.stands
