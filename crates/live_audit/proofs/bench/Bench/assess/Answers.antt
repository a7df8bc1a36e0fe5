use Rattle.std.proofs.Common.{subst}
use Rattle.edits.specs.Design.{Design}
use Rattle.live_audit.specs.Assessing.{AreFewToAssess}
use Rattle.live_audit.specs.Bench.{Seen}
use Rattle.live_audit.proofs.bench.Bench.assess.Goals as goal

pub returns-clause-few : goal.returns-clause-few
returns-clause-few g c =
    let s = c.self.inside in
    let calls = g.E.LineEngine.calls s.engine in
    let after = g.E.LineEngine.calls c.assessment_of.new.engine in
    let here = subst (λ (d : Design). AreFewToAssess d c.args.allowance calls after) c.document.ensures c.assessment_of.ensures.few in
    subst (λ (was : Seen). AreFewToAssess was.history.document c.args.allowance was.calls after) c.self.view_is here
