use Rattle.std.proofs.Common.{subst, sym, ◌≤◌}
use Rattle.picture.specs.declared.picture.TheConstants.{MAX_SIDE}
use Rattle.edits.specs.Design.{Design}
use Rattle.live_audit.specs.Verdict.{IsToldBy}
use Rattle.live_audit.proofs.VerdictLemmas.{audited_so, decided}
use Rattle.live_audit.proofs.bench.Bench.decide.Goals as goal

pub invariant_of-self-2 : goal.invariant_of-self-2
invariant_of-self-2 g c =
    let s = c.self.inside in
    record {
      audited = audited_so c.document.result.now s.studio s.audit.clues s.audit.book s.keeper _ s.allowance s.work _ _ _ c.document.ensures c.self.invariant.audited c.rule.ensures.answers;
      history = c.self.invariant.history;
      long = subst (λ n. MAX_SIDE ≤ n) (sym c.rule.ensures.same_longest) c.self.invariant.long;
    }

pub returns-clause-decides : goal.returns-clause-decides
returns-clause-decides g c =
    let s = c.self.inside in
    let j = c.in_ok-is_decided.ensures.judges in
    let told = subst (λ (d : Design). IsToldBy d s.allowance c.rule.new.keeper c.in_ok-is_decided.is_decided j.0) c.document.ensures j.1.0 in (
      j.0,
      (
        told,
        decided c.document.result.now s.studio s.audit.clues s.audit.book s.keeper _ s.allowance s.work _ _ _ _ _ c.args.self.now _ c.document.ensures c.self.view_is j.1.1
            c.in_ok-is_decided.ensures.few,
      ),
    )

pub returns-clause-audited : goal.returns-clause-audited
returns-clause-audited g c =
    let s = c.self.inside in
    audited_so c.document.result.now s.studio s.audit.clues s.audit.book s.keeper _ s.allowance s.work _ _ _ c.document.ensures c.self.invariant.audited c.rule.ensures.answers
