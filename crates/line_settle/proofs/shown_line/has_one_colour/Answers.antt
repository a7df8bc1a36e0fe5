use Rattle.line_settle.proofs.ShownLemmas.{one_colour}
use Rattle.line_settle.proofs.shown_line.has_one_colour.Goals as goal

pub returns : goal.returns
returns c = rw c.is_some.ensures (one_colour _ c.only_colour.result c.ranges.mask.fits c.only_colour.ensures)
