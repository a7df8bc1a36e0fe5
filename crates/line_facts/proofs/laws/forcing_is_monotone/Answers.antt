use Rattle.line_facts.proofs.LawLemmas.{forcing_monotone}
use Rattle.line_facts.proofs.laws.forcing_is_monotone.Goals as goal

pub returns : goal.returns
returns c = forcing_monotone
