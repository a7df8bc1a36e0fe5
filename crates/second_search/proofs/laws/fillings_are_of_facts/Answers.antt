use Rattle.second_search.proofs.KnownLaws.{fillings_are_of_facts}
use Rattle.second_search.proofs.laws.fillings_are_of_facts.Goals as goal

pub returns : goal.returns
returns c = fillings_are_of_facts
