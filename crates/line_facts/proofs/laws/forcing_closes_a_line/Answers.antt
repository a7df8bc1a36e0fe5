use Rattle.line_facts.proofs.LawLemmas.{closes_a_line}
use Rattle.line_facts.proofs.laws.forcing_closes_a_line.Goals as goal

pub returns : goal.returns
returns c = closes_a_line
