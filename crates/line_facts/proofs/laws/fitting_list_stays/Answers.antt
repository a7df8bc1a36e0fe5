use Rattle.line_facts.proofs.LawLemmas.{own_list_stays}
use Rattle.line_facts.proofs.laws.fitting_list_stays.Goals as goal

pub returns : goal.returns
returns c = own_list_stays
