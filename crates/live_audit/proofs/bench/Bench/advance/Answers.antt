use Rattle.std.proofs.Common.{ap, subst, sym, ◌≤◌}
use Rattle.picture.specs.declared.picture.TheConstants.{MAX_SIDE}
use Rattle.clues.specs.Change.{Changes}
use Rattle.edits.specs.Design.{Design}
use Rattle.live_audit.specs.Audit.{IsAuditOf}
use Rattle.live_audit.specs.Bench.{AreAnswersOf, Seen}
use Rattle.live_audit.proofs.CarryLemmas.{carries_on, goes_to}
use Rattle.live_audit.proofs.DepthLemmas.{fits}
use Rattle.live_audit.proofs.bench.Bench.advance.Goals as goal

pub invariant_of-self-2 : goal.invariant_of-self-2
invariant_of-self-2 g c =
    let s = c.self.inside in
    let p = c.args.prepared in
    let new = c.in-Ok.audit in
    let was = ap (λ (x : Seen). x.history) c.self.view_is in
    let here = goes_to c.document-2.result.now p.document p.advance s.studio c.args.self.now.history c.commit.new.self c.document-2.ensures c.requires.plan.gives was c.commit.ensures in
    let there = goes_to c.document-4.result.now p.document p.advance s.studio c.args.self.now.history c.commit.new.self c.document-4.ensures c.requires.plan.gives was c.commit.ensures in
    record {
      audited = record {
        audit = subst (λ (d : Design). IsAuditOf d new.clues new.book) here c.in-Ok.ensures.audit;
        answers = subst (λ (d : Design). AreAnswersOf d new.clues new.book.facts c.in_ok-keeper.keeper) there c.in_ok-keeper.ensures.answers;
      };
      history = fits s.studio c.commit.new.self p.advance c.commit.ensures c.self.invariant.history;
      long = subst (λ n. MAX_SIDE ≤ n) (sym c.audit_again.ensures.same_longest) c.self.invariant.long;
    }

pub returns-clause-book : goal.returns-clause-book
returns-clause-book g c =
    let s = c.self.inside in
    let p = c.args.prepared in
    let was = ap (λ (x : Seen). x.history) c.self.view_is in
    let to = goes_to c.document-4.result.now p.document p.advance s.studio c.args.self.now.history c.commit.new.self c.document-4.ensures c.requires.plan.gives was c.commit.ensures in
    carries_on p.change.moves _ c.document-3.result.now c.document-4.result.now s.studio c.commit.new.self s.audit.clues _ s.audit.book _ s.keeper _ s.allowance s.work _ _ _ c.args.self.now
    c.document-3.ensures to c.self.view_is (ap (λ (x : Changes). x.moves) c.change.ensures) c.in-Ok.ensures.goes_on c.in_ok-keeper.ensures.carries
