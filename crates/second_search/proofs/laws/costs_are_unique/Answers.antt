use Rattle.second_search.proofs.KnownLaws.{costs_are_unique}
use Rattle.second_search.proofs.laws.costs_are_unique.Goals as goal

pub returns : goal.returns
returns c = costs_are_unique
