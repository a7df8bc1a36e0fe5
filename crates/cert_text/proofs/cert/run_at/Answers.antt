use Rattle.std.proofs.Common.{arith, rules}
use Rattle.cert_text.proofs.OrderLemmas.{one_is_run, run_fits, run_more}
use Rattle.cert_text.proofs.cert.run_at.Goals as goal

pub loop-count-init : goal.loop-count-init
loop-count-init c = record { run = one_is_run c.args.steps.now c.requires; some = omega arith; few = omega arith; most = omega arith }

pub loop-count-preserved : goal.loop-count-preserved
loop-count-preserved c =
    let share = c.shares_word.ensures.0 (search rules) in
    record {
      run = run_more c.args.steps.now c.loop-count.count _ c.loop-count.invariant.some c.loop-count-test.true c.if-count-lt-MAX_RUN.true share c.loop-count.invariant.run;
      some = omega arith;
      few = omega arith;
      most = omega arith;
    }

pub returns-else-count-lt-MAX_RUN-clause-longest : goal.returns-else-count-lt-MAX_RUN-clause-longest
returns-else-count-lt-MAX_RUN-clause-longest c = λ l r.
    absurd (omega (arith, c.if-count-lt-MAX_RUN.false, run_fits c.args.steps.now c.loop-count.count c.loop-count.invariant.some l r))
