use Rattle.line_facts.proofs.laws.one_line_decides.Goals as goal
use Rattle.line_facts.proofs.FitLaws.{one_line}

pub returns : goal.returns
returns c = one_line
