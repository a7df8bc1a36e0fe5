use Rattle.std.proofs.Common.{inr, arith}
use Rattle.cert_text.specs.Reading.{steps_below}
use Rattle.cert_text.specs.Text.{lines_of}
use Rattle.cert_text.proofs.ReadLemmas.{lines_end, lines_have_runs, lines_more, lines_stop}
use Rattle.cert_text.proofs.reading.read_lines.Goals as goal

pub returns-in_default-2-clause-value : goal.returns-in_default-2-clause-value
returns-in_default-2-clause-value c =
    let pushed = c.in_ok-length.ensures in
    inr (lines_stop c.args.form c.loop-line.steps.items c.loop-line.runs.items c.loop-line.number (lines_of c.loop-line.rest.now) (steps_below c.args.form c.args.first
    (lines_of c.args.text.now)) c.loop-line.invariant.left
    c.in-Some.line.now (lines_of c.in-Some.behind.now) c.in-Some.ensures.0 (rw c.in_default-2.is at pushed))

pub loop-line-preserved : goal.loop-line-preserved
loop-line-preserved c =
    let pushed = c.in_ok-length.ensures in
    record {
      left = lines_more c.args.form c.loop-line.steps.items c.loop-line.runs.items c.loop-line.number (lines_of c.loop-line.rest.now) (steps_below c.args.form c.args.first (lines_of c.args.text.now))
          c.loop-line.invariant.left c.in-Some.line.now (lines_of c.in-Some.behind.now) c.in-Some.ensures.0 c.push_steps.new.steps.items c.push_length.new.runs.items c.in-Some-2.length
          (rw c.in-Some-2.is at pushed) c.in_ok-push_length.ensures;
      room = omega (arith, c.in-Some.ensures.1);
    }

pub returns-clause-value : goal.returns-clause-value
returns-clause-value c =
    lines_end c.args.form c.loop-line.steps.items c.loop-line.runs.items c.loop-line.number (lines_of c.loop-line.rest.now) (steps_below c.args.form c.args.first
    (lines_of c.args.text.now)) c.loop-line.invariant.left c.in_default.ensures

pub returns-clause-runs : goal.returns-clause-runs
returns-clause-runs c =
    lines_have_runs c.args.form c.loop-line.steps.items c.loop-line.runs.items c.loop-line.number (lines_of c.loop-line.rest.now) (steps_below c.args.form c.args.first
    (lines_of c.args.text.now)) c.loop-line.invariant.left
