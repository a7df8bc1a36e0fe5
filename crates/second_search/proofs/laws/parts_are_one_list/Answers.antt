use Rattle.second_search.proofs.RowLemmas.{all_one_list}
use Rattle.second_search.proofs.laws.parts_are_one_list.Goals as goal

pub returns : goal.returns
returns c = all_one_list
