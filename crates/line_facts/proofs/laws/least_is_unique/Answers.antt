use Rattle.line_facts.proofs.LawLemmas.{one_least}
use Rattle.line_facts.proofs.laws.least_is_unique.Goals as goal

pub returns : goal.returns
returns c = one_least
