use Rattle.std.proofs.lemmas.Bool.{false≢true}
use Rattle.justify.proofs.BookLemmas.{step_read}
use Rattle.justify.proofs.StandingLemmas.{forced_at}
use Rattle.justify.proofs.book.Book.stands.Goals as goal

pub is_forced-requires-clause-premises_inside : goal.is_forced-requires-clause-premises_inside
is_forced-requires-clause-premises_inside g c =
    let s = step_read c.args.self.now _ c.loop-step.step-index c.step-item.result c.steps-steps.ensures.account c.steps-steps.ensures.value c.loop-step-test.true c.step-item.is in
    let len = rw c.base-in-loop-step.ensures.value at c.line_len-cells.ensures.len in
    rw len s.follows.premises_inside

pub is_forced-requires-clause-drawn_inside : goal.is_forced-requires-clause-drawn_inside
is_forced-requires-clause-drawn_inside g c =
    let s = step_read c.args.self.now _ c.loop-step.step-index c.step-item.result c.steps-steps.ensures.account c.steps-steps.ensures.value c.loop-step-test.true c.step-item.is in
    let len = rw c.base-in-loop-step.ensures.value at c.line_len-cells.ensures.len in
    rw len s.follows.drawn_inside

pub returns-then-not-is_forced-clause-stands : goal.returns-then-not-is_forced-clause-stands
returns-then-not-is_forced-clause-stands g c =
    let s = step_read c.args.self.now _ c.loop-step.step-index c.step-item.result c.steps-steps.ensures.account c.steps-steps.ensures.value c.loop-step-test.true c.step-item.is in
    let len = rw c.base-in-loop-step.ensures.value at c.line_len-cells.ensures.len in
    let both =
    forced_at c.args.clues.now c.args.self.now.base c.args.self.now.steps c.loop-step.step-index c.step-item.result c.clue.result.now c.line_len-cells.result s.same c.clue.ensures.value len in
    ((λ t. absurd (false≢true t)), (λ d. c.if-not-is_forced.ensures.forced.1 (both.1 (d.forced c.loop-step.step-index s.within))))
