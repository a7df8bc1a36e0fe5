use Rattle.std.proofs.Common.{ℕ, ◌+◌, drop, Err, refl, ap, ◌∙◌, arith}
use Rattle.std.proofs.lemmas.Result.{err_from_is_err_and}
use Rattle.line_facts.proofs.FitLaws.{counting_adds}
use Rattle.propagate.proofs.GrowLemmas.{all_trimmed}
use Rattle.propagate.proofs.TurnLemmas.{dead_made, made_over}
use Rattle.propagate.proofs.ScheduleBookLemmas.{Scheduled, next_in_turn, schedule_dies, schedule_fails, schedule_goes_on, schedule_starts}
use Rattle.fixpoint.proofs.WorkLaws.{nothing_counted}
use Rattle.propagate.proofs.schedule.run_schedule.Goals as goal

pub loop-line-init : goal.loop-line-init
loop-line-init g c = record {
  scheduled = schedule_starts _ _ _ _ c.requires.derivation c.requires.closable;
  counts = nothing_counted _ _ (omega arith) (omega arith) (omega arith);
  same_longest = refl;
}

pub returns-in_err-take_turn-clause-runs : goal.returns-in_err-take_turn-clause-runs
returns-in_err-take_turn-clause-runs g c =
    let p = err_from_is_err_and c.from_residual.result c.from_residual.ensures.1 in
    let next = next_in_turn _ _ _ _ c.args.schedule.now c.loop-line.line-index _ c.loop-line-test.true c.loop-line.invariant.scheduled in
    let made = made_over _ _ _ _ _ c.clue.ensures.value c.loop-line.invariant.scheduled.grows.derivation c.make_step-made.ensures.makes in
    rw (p.1, p.2) (schedule_fails c.args.clues.now c.args.book c.args.schedule.now _ (λ e. schedule_dies _ _ _ _ _ _ _ next (dead_made _ _ _ _ made (c.in_err-take_turn.ensures.dead (ap Err e)))))

pub returns-in_err-take_turn-clause-works : goal.returns-in_err-take_turn-clause-works
returns-in_err-take_turn-clause-works g c =
    let p = err_from_is_err_and c.from_residual.result c.from_residual.ensures.1 in
    rw p.1 (c.loop-line.line-index + 1, omega arith, counting_adds _ 0 1 0 _ _ _ _ _ _ c.loop-line.invariant.counts c.make_step-made.ensures.counts)

pub loop-line-preserved : goal.loop-line-preserved
loop-line-preserved g c =
    let i = c.loop-line.invariant in
    let e = c.in_ok-take_turn.ensures in
    let m = c.make_step-made.ensures in
    let made = made_over _ _ _ _ _ c.clue.ensures.value c.loop-line.invariant.scheduled.grows.derivation c.make_step-made.ensures.makes in
    let next = next_in_turn _ _ _ _ c.args.schedule.now c.loop-line.line-index _ c.loop-line-test.true i.scheduled in
    record {
      scheduled = rw m.same_longest (schedule_goes_on _ _ _ _ _ _ _ next _ _ (e.turn _ made) (e.comes_to _ made));
      counts = counting_adds _ 0 1 0 _ _ _ _ _ _ i.counts m.counts;
      same_longest = m.same_longest ∙ i.same_longest;
    }

pub returns-clause-trimmed : goal.returns-clause-trimmed
returns-clause-trimmed g c = all_trimmed _ _ _ _ c.loop-line.invariant.scheduled.grows
