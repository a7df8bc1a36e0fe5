use Rattle.second_search.proofs.TreeLemmas.{none_fills}
use Rattle.second_search.proofs.KnownLaws.{closing_keeps_fillings, only_is_closed}
use Rattle.second_search.proofs.laws.trees_are_whole.Goals as goal

pub returns : goal.returns
returns c = λ clues known facts keeps lines same tree. none_fills only_is_closed closing_keeps_fillings clues known facts lines same tree.0
