use Rattle.picture.specs.Content.{content_of}
use Rattle.ppm_text.proofs.Again.{is_read_again}
use Rattle.ppm_text.proofs.laws.round_trip_of.Goals as goal

pub returns : goal.returns
returns c = λ ungiven. is_read_again (content_of c.args.document.now) (record { palette = c.len.ensures.palette; picture = c.height.ensures.picture; givens = ungiven })
