use Rattle.std.proofs.Common.{◌≡◌, ◌+◌, ◌≤◌, ◌∙◌, arith, sym}
use Rattle.line_facts.specs.Counts.{counted}
use Rattle.second_search.specs.Evaluations.{most_in_tree}
use Rattle.second_search.proofs.UntilLemmas.{in_all, none_broken, one_more, one_reached, within_bound}
use Rattle.second_search.proofs.ladder.take_turn.Goals as goal

pub returns-in_err-found-clause-few : goal.returns-in_err-found-clause-few
returns-in_err-found-clause-few g c =
    let facts = c.args.scene.now.facts.now in
    let before = g.E.LineEngine.calls c.loop-choice.engine in
    let until : c.saturating_add-until.result ≤ before + c.args.bound = omega arith in
    let two : c.loop-choice.choice-index + 1 ≤ 2 = omega arith in
    let tree = within_bound c.way_of-way.result.until facts c.args.bound c.saturating_add-until.result before (g.E.LineEngine.calls c.write_tree.new.engine) c.way_of-way.ensures until
    c.write_tree.ensures.few in
    in_all (c.loop-choice.choice-index + 1) (most_in_tree facts c.args.bound) _ _ two
    (one_more c.loop-choice.choice-index (most_in_tree facts c.args.bound) _ before _ c.loop-choice.invariant.few tree)

pub returns-then-is_some-clause-few : goal.returns-then-is_some-clause-few
returns-then-is_some-clause-few g c =
    let facts = c.args.scene.now.facts.now in
    let before = g.E.LineEngine.calls c.loop-choice.engine in
    let until : c.saturating_add-until.result ≤ before + c.args.bound = omega arith in
    let two : c.loop-choice.choice-index + 1 ≤ 2 = omega arith in
    let tree = within_bound c.way_of-way.result.until facts c.args.bound c.saturating_add-until.result before (g.E.LineEngine.calls c.write_tree.new.engine) c.way_of-way.ensures until
    c.write_tree.ensures.few in
    in_all (c.loop-choice.choice-index + 1) (most_in_tree facts c.args.bound) _ _ two
    (one_more c.loop-choice.choice-index (most_in_tree facts c.args.bound) _ before _ c.loop-choice.invariant.few tree)

pub loop-choice-preserved : goal.loop-choice-preserved
loop-choice-preserved g c =
    let facts = c.args.scene.now.facts.now in
    let before = g.E.LineEngine.calls c.loop-choice.engine in
    let until : c.saturating_add-until.result ≤ before + c.args.bound = omega arith in
    let tree = within_bound c.way_of-way.result.until facts c.args.bound c.saturating_add-until.result before (g.E.LineEngine.calls c.write_tree.new.engine) c.way_of-way.ensures until
    c.write_tree.ensures.few in
    let counts : c.saturating_add-until.result ≡ counted before c.args.bound = omega arith in
    record {
      calls = omega arith;
      unspent = c.loop-choice.invariant.unspent;
      reached = λ unspent.
          one_reached c.way_of-way.result.until c.loop-choice.choice-index c.args.bound c.saturating_add-until.result (g.E.LineEngine.calls c.args.engine.now) before _ c.way_of-way.ensures counts
          (c.loop-choice.invariant.reached unspent) (none_broken _ _ c.in_ok-found.found (sym c.is_some.ensures ∙ c.if-is_some.false) c.in_ok-found.ensures.broken_off);
      few = one_more c.loop-choice.choice-index (most_in_tree facts c.args.bound) _ before _ c.loop-choice.invariant.few tree;
      same_longest = c.write_tree.ensures.same_longest ∙ c.loop-choice.invariant.same_longest;
    }
