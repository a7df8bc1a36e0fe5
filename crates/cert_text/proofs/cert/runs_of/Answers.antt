use Rattle.std.proofs.Common.{◌≡◌, length, rules}
use Rattle.cert_text.proofs.OrderLemmas.{longest_end, longest_more, runs_end, runs_more}
use Rattle.cert_text.proofs.cert.runs_of.Goals as goal

pub loop-rest-preserved : goal.loop-rest-preserved
loop-rest-preserved c = record {
  so_far = λ more are.
      rw c.in_ok-push.ensures.items (runs_more c.loop-rest.runs.items c.run_at-run.result c.loop-rest.rest.now c.args.steps.now c.run_at-run.ensures.few c.run_at-run.ensures.run
      c.loop-rest.invariant.so_far more
      (rw c.split_at.ensures.back at are));
  longest = λ more are.
      rw c.in_ok-push.ensures.items (longest_more c.loop-rest.runs.items c.run_at-run.result c.loop-rest.rest.now c.args.steps.now c.run_at-run.ensures.longest
      c.loop-rest.invariant.longest more
      (rw c.split_at.ensures.back at are));
}

pub returns : goal.returns
returns c =
    let none : length c.loop-rest.rest.now ≡ 0 = search rules in
    record {
      runs = runs_end c.loop-rest.runs.items c.loop-rest.rest.now c.args.steps.now none c.loop-rest.invariant.so_far;
      longest = longest_end c.loop-rest.runs.items c.loop-rest.rest.now c.args.steps.now c.loop-rest.invariant.longest;
    }
