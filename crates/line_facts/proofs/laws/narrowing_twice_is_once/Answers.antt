use Rattle.line_facts.proofs.LawLemmas.{twice_is_once}
use Rattle.line_facts.proofs.laws.narrowing_twice_is_once.Goals as goal

pub returns : goal.returns
returns c = twice_is_once
