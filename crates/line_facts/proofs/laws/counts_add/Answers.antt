use Rattle.line_facts.proofs.laws.counts_add.Goals as goal
use Rattle.line_facts.proofs.FitLaws.{counting_adds}

pub returns : goal.returns
returns c = counting_adds
