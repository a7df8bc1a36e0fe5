use Rattle.line_settle.proofs.PositionLemmas.{lowest_of_eight}
use Rattle.line_settle.proofs.word.Word.has_first.Goals as goal

pub returns : goal.returns
returns g c = rw c.low_eight.ensures (lowest_of_eight (g.Self.Word.bits c.args.self))
