use Rattle.live_audit.proofs.AuditLemmas.{base_for}
use Rattle.live_audit.proofs.audit.base_of.Goals as goal

pub returns : goal.returns
returns c = base_for c.args.document.now _ c.args.document.now.inside c.know.ensures.design.is_picture c.in_ok-base.ensures
