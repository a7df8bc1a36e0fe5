use Rattle.line_settle.proofs.NarrowLemmas.{closed_lines}
use Rattle.line_settle.proofs.laws.closed_lines_hold_what_they_force.Goals as goal

pub returns : goal.returns
returns c = closed_lines
