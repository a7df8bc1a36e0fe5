use Rattle.justify.proofs.LawLemmas.{facts_known}
use Rattle.justify.proofs.laws.facts_are_what_is_known.Goals as goal

pub returns : goal.returns
returns c = facts_known
