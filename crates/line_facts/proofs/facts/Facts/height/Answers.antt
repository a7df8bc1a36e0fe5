use Rattle.line_facts.proofs.FactLemmas.{known}
use Rattle.line_facts.proofs.facts.Facts.height.Goals as goal

pub returns-clause-facts : goal.returns-clause-facts
returns-clause-facts c = (known _ _ _ _ c.self.view_is c.self.invariant).facts
