use Rattle.edits.specs.Design.{design_of}
use Rattle.live_audit.proofs.DepthLemmas.{begins}
use Rattle.live_audit.proofs.VerdictLemmas.{begins_audited}
use Rattle.live_audit.proofs.bench.Bench.start.Goals as goal
use Rattle.std.proofs.Common.{arith}

pub invariant_of-result : goal.invariant_of-result
invariant_of-result g c = record {
  audited = begins_audited (design_of c.args.document) c.args.depth _ _ _ _ _ _ _ _ c.in_ok-studio.ensures c.in-Ok.ensures.audit c.facts.ensures.value c.in_ok-keeper.ensures;
  history = begins (design_of c.args.document) c.args.depth _ c.in_ok-studio.ensures c.requires.depth.0 c.requires.depth.1;
  long = let same = c.audit_anew.ensures.same_longest in let long = c.requires.long in omega arith;
}

pub returns-clause-audited : goal.returns-clause-audited
returns-clause-audited g c =
    begins_audited (design_of c.args.document) c.args.depth _ _ _ _ _ _ _ _ c.in_ok-studio.ensures c.in-Ok.ensures.audit c.facts.ensures.value c.in_ok-keeper.ensures
