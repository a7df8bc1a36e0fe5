-- Step by step, what stands is kept.
use Rattle.std.proofs.Common.{◌≡◌, ℕ, ◌<◌, length, sym, ap, subst, ◌∙◌, arith}
use Rattle.picture.specs.declared.line_id.LineId.{LineId}
use Rattle.line_facts.specs.FactSets.{Excludes}
use Rattle.justify.specs.declared.step.Step.{Step}
use Rattle.justify.specs.Premises.{Mentions}
use Rattle.justify.specs.Book.{CanAdd}
use Rattle.justify.specs.Steps.{step_at}
use Rattle.clues.specs.Change.{lines_before}
use Rattle.picture.specs.CrossingLines.{crossing}
use Rattle.retract.specs.StandingSteps.{Stands, moved}
use Rattle.retract.proofs.DirtyLemmas.{closed_outside, fits_outside}
use Rattle.retract.proofs.KeepLemmas.{drawn_within, premises_within, step_read}
use Rattle.retract.proofs.SoFarLemmas.{can_add, so_far_all, so_far_gone, so_far_kept, so_far_none}
use Rattle.retract.proofs.keeping.keep.Goals as goal
use Rattle.retract.proofs.keeping.keep.Goals.{in-Some+in_ok-moved_to+in_ok-add_step, in_default}

pub loop-step-init : goal.loop-step-init
loop-step-init c = rw c.in_ok-kept.ensures (so_far_none c.args.change.now.moves c.args.old.now c.args.new.now c.args.book.now c.args.base c.requires.books c.requires.base)

pub standing_line-requires-clause-premises : goal.standing_line-requires-clause-premises
standing_line-requires-clause-premises c =
    let items = c.steps-step-items.ensures.value in
    let step = step_read c.steps-step-items.result.now c.args.book.now.steps c.loop-step.step-index c.step-item.result items c.loop-step-test.true c.step-item.is in
    subst (λ (s : Step). (i : ℕ) → Mentions s.premises i → i < lines_before (crossing s.line.axis) c.args.change.now.moves) (sym step)
    (premises_within c.args.change.now.moves c.args.old.now c.args.new.now c.args.book.now c.loop-step.step-index c.steps-step-items.ensures.account c.requires.derivation c.requires.books
    (omega (arith, c.loop-step-test.true, ap length items)))

pub standing_line-requires-clause-drawn : goal.standing_line-requires-clause-drawn
standing_line-requires-clause-drawn c =
    let items = c.steps-step-items.ensures.value in
    let step = step_read c.steps-step-items.result.now c.args.book.now.steps c.loop-step.step-index c.step-item.result items c.loop-step-test.true c.step-item.is in
    subst (λ (s : Step). (i : ℕ) → Mentions s.drawn i → i < lines_before (crossing s.line.axis) c.args.change.now.moves) (sym step)
    (drawn_within c.args.change.now.moves c.args.old.now c.args.new.now c.args.book.now c.loop-step.step-index c.steps-step-items.ensures.account c.requires.derivation c.requires.books
    (omega (arith, c.loop-step-test.true, ap length items)))

pub add_step-requires : goal.add_step-requires
add_step-requires c =
    let items = c.steps-step-items.ensures.value in
    let step = step_read c.steps-step-items.result.now c.args.book.now.steps c.loop-step.step-index c.step-item.result items c.loop-step-test.true c.step-item.is in
    let within : c.loop-step.step-index < length c.args.book.now.steps = omega (arith, c.loop-step-test.true, ap length items) in
    let stands = subst (λ s. Stands c.args.change.now.moves c.args.old.now c.args.new.now (Excludes c.loop-step.kept.facts) s c.in-Some.to) step (rw c.facts.ensures.value at c.in-Some.ensures.some) in
    let can = can_add c.args.change.now.moves c.args.old.now c.args.new.now c.args.book.now c.args.base c.loop-step.step-index c.loop-step.kept within c.loop-step.invariant c.facts.ensures.account
    c.in-Some.to c.in-Some.ensures.moves c.steps-step-items.ensures.account c.requires.derivation c.requires.books c.requires.base stands in
    rw c.in_ok-moved_to.ensures (subst (λ s. CanAdd c.loop-step.kept (moved s c.in-Some.to)) (sym step) can)

pub loop-step-preserved : goal.loop-step-preserved
loop-step-preserved c =
    let items = c.steps-step-items.ensures.value in
    let step = step_read c.steps-step-items.result.now c.args.book.now.steps c.loop-step.step-index c.step-item.result items c.loop-step-test.true c.step-item.is in
    let within : c.loop-step.step-index < length c.args.book.now.steps = omega (arith, c.loop-step-test.true, ap length items) in
    elim c.match-standing_line.branch [
      | in-Some+in_ok-moved_to+in_ok-add_step w ↦
          let stands =
          subst (λ s. Stands c.args.change.now.moves c.args.old.now c.args.new.now (Excludes c.loop-step.kept.facts) s w.in-Some.to) step (rw c.facts.ensures.value at w.in-Some.ensures.some) in
          let moved_step : w.in_ok-moved_to.field-0 ≡ moved (step_at c.args.book.now.steps c.loop-step.step-index) w.in-Some.to = w.in_ok-moved_to.ensures ∙ ap (λ s. moved s w.in-Some.to) step in
          rw w.kept-is
          (so_far_kept c.args.change.now.moves c.args.old.now c.args.new.now c.args.book.now c.args.base c.loop-step.step-index c.loop-step.kept within c.loop-step.invariant c.facts.ensures.account
          w.in-Some.to w.in-Some.ensures.moves c.steps-step-items.ensures.account c.requires.derivation c.requires.books c.requires.base stands w.add_step.new.self
          (rw moved_step at w.in_ok-add_step.ensures.ok))
      | in_default w ↦
          let gone : (to : LineId) → Stands c.args.change.now.moves c.args.old.now c.args.new.now (Excludes c.loop-step.kept.facts) (step_at c.args.book.now.steps c.loop-step.step-index) to → ⊥ =
          subst (λ s. (to : LineId) → Stands c.args.change.now.moves c.args.old.now c.args.new.now (Excludes c.loop-step.kept.facts) s to → ⊥) step
          (rw c.facts.ensures.value at w.in_default.ensures.none) in
          rw w.kept-is (so_far_gone c.args.change.now.moves c.args.old.now c.args.new.now c.args.book.now c.args.base c.loop-step.step-index c.loop-step.kept within c.loop-step.invariant
          c.facts.ensures.account gone)
    ]

pub returns-clause-steps : goal.returns-clause-steps
returns-clause-steps c =
    let items = c.steps-step-items.ensures.value in
    so_far_all c.args.change.now.moves c.args.old.now c.args.new.now c.args.book.now c.args.base c.loop-step.step-index c.loop-step.kept
    (omega (arith, c.loop-step-test.false, ap length items)) c.loop-step.invariant

pub returns-clause-closed : goal.returns-clause-closed
returns-clause-closed c = closed_outside c.args.change.now.moves c.args.old.now c.args.new.now c.args.book.now.facts c.loop-step.kept.facts c.dirty_lines-dirty.result
    (rw (c.facts-2.ensures.value, c.facts-3.ensures.value) at c.dirty_lines-dirty.ensures)

pub returns-clause-fits : goal.returns-clause-fits
returns-clause-fits c = fits_outside c.args.change.now.moves c.args.old.now c.args.new.now c.args.book.now.facts c.loop-step.kept.facts c.dirty_lines-dirty.result
    (rw (c.facts-2.ensures.value, c.facts-3.ensures.value) at c.dirty_lines-dirty.ensures)
