use Rattle.edits.proofs.DesignLemmas.{is_design}
use Rattle.edits.proofs.facts.know.Goals as goal

pub returns-clause-design : goal.returns-clause-design
returns-clause-design c = is_design c.args.document.now.palette c.args.document.now.picture c.args.document.now.givens c.len.ensures.palette c.height.ensures.picture c.args.document.now.coloured
