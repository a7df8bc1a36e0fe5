use Rattle.std.proofs.Common.{ℕ, ◌<◌, length, subst, sym, arith}
use Rattle.picture.specs.Rows.{line_of}
use Rattle.justify.specs.declared.step.Step.{Step}
use Rattle.justify.specs.Premises.{Mentions}
use Rattle.justify.specs.Book.{Account, CanAdd}
use Rattle.justify.proofs.BookLemmas.{account_more, drawn_lies_inside, found_last}
use Rattle.justify.proofs.book.Book.add_step.Goals as goal

pub gain_drawn-requires-clause-inside : goal.gain_drawn-requires-clause-inside
gain_drawn-requires-clause-inside c =
    let inside = c.self.inside in
    let can = subst (λ (b : Account). CanAdd b c.args.step) (sym c.self.view_is) c.requires in
    let e = found_last inside.steps.items c.push.new.self.items c.args.step c.index.result.now c.len-last.result
    (let e = c.len-last.ensures in omega (arith, inside.steps.ok.0)) c.in_ok-push.ensures.items c.index.ensures in
    subst (λ (s : Step). (i : ℕ) → Mentions s.drawn i → i < length (line_of inside.facts s.line)) (sym e)
    (drawn_lies_inside inside.base inside.steps.items inside.facts c.args.step c.self.invariant can)

pub invariant_of-self-2 : goal.invariant_of-self-2
invariant_of-self-2 c =
    let inside = c.self.inside in
    let can = subst (λ (b : Account). CanAdd b c.args.step) (sym c.self.view_is) c.requires in
    let e = found_last inside.steps.items c.push.new.self.items c.args.step c.index.result.now c.len-last.result
    (let e = c.len-last.ensures in omega (arith, inside.steps.ok.0)) c.in_ok-push.ensures.items c.index.ensures in
    rw c.in_ok-push.ensures.items (account_more inside.base inside.steps.items inside.facts c.gain_drawn.new.facts c.args.step c.self.invariant can (rw (← e) c.gain_drawn.ensures))
