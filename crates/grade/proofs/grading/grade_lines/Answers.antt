use Rattle.std.proofs.Common.{◌∷◌, ◌∙◌, arith}
use Rattle.grade.specs.Runs.{look_in}
use Rattle.grade.proofs.SettleLemmas.{runs_settle}
use Rattle.grade.proofs.grading.grade_lines.Goals as goal

pub loop-seen-preserved : goal.loop-seen-preserved
loop-seen-preserved g c =
    let i = c.loop-seen.invariant in
    let seen = c.in-Some.ensures.looks c.args.facts.now i.looks i.walks in
    record {
      can = c.look.ensures.can;
      closable = c.look.ensures.closable;
      looks = look_in c.in-Some.seen.turn c.loop-seen.facts c.look.new.facts ∷ i.looks;
      walks = seen.1;
      tallies = c.count.ensures.tallies i.looks c.loop-seen.facts c.look.new.facts i.tallies seen.0;
      few = omega (arith, i.few, c.in-Some.ensures.less, c.count.ensures.evaluations);
      since = c.count.ensures.since;
      called = (let once = c.in-Some.ensures.called in let before = i.called in omega (arith, once, before));
      same_longest = c.look.ensures.same_longest ∙ i.same_longest;
    }

pub returns-clause-least : goal.returns-clause-least
returns-clause-least g c = λ picture fills.
    let i = c.loop-seen.invariant in
    let run = c.in_default.ensures.looks c.args.facts.now i.looks i.walks in
    runs_settle c.args.book.now c.args.facts.now c.look.new.facts i.looks picture fills run
