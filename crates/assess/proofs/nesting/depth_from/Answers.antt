use Rattle.std.proofs.Common.{◌≡◌, ◌<◌, ◌^◌, ◌∙◌, List, arith, length, max, refl, reverse, subst, sym}
use Rattle.std.proofs.lemmas.Grind.{common_steps}
use Rattle.std.proofs.lemmas.List.{drop_all}
use Rattle.line_facts.specs.FactSets.{SameShape}
use Rattle.trail.specs.Trail.{Trailed}
use Rattle.cert_text.specs.declared.cert_line.CertLine.{CertLine}
use Rattle.cert_check.specs.Walk.{CanCheck}
use Rattle.assess.specs.Guessing.{depth_of}
use Rattle.assess.proofs.AheadLemmas.{IsAhead, at_end, at_start, next_ahead, small_depth}
use Rattle.assess.proofs.nesting.depth_from.Goals as goal

pub loop-line-init : goal.loop-line-init
loop-line-init g c = record {
  can = c.requires.can;
  same_longest = refl;
  few = omega arith;
  calls = omega arith;
  same_shape = subst (λ (trail : Trailed). SameShape c.args.picture.now trail.at_hand) (sym c.start-trail.ensures) c.requires.same_shape;
  ahead = λ tree w p. rw c.new-nests.ensures.items (at_start c.args.picture.now c.args.facts c.start-trail.result tree c.args.lines.now c.start-trail.ensures w p);
}

pub loop-line-preserved : goal.loop-line-preserved
loop-line-preserved g c =
    let lines = c.args.lines.now in
    let nest = c.nest_after-nest.result in
    let few : length lines < 2 ^ 64 = omega arith in
    let nest_is = rw c.take_nest.ensures.taken at c.nest_after-nest.ensures in
    let after_is = rw c.take_nest.ensures.others at c.in_ok-push_nests.ensures in
    let most_is : c.max-depth.result ≡ max c.loop-line.depth c.nest_after-nest.result = grind (arith, common_steps, c.max-depth.ensures) in
    record {
      can = subst (CanCheck c.args.picture.now c.args.clues.now) (sym c.in_ok-begun.ensures.same_longest) c.loop-line.invariant.can;
      same_longest = c.in_ok-begun.ensures.same_longest ∙ c.loop-line.invariant.same_longest;
      few = omega arith;
      calls = omega arith;
      same_shape = c.in_ok-begun.ensures.same_shape;
      ahead = λ tree w p. next_ahead c.args.picture.now c.loop-line.trail c.follow.new.trail lines c.loop-line.line-index c.in_ok-begun.begun c.loop-line.depth nest c.max-depth.result
          (depth_of tree) _ (reverse c.loop-line.nests.items) (reverse c.push_nests.new.nests.items) c.loop-line-test.true (small_depth tree lines w few) c.in_ok-begun.ensures.follows nest_is after_is
          most_is (c.loop-line.invariant.ahead tree w p);
    }

pub returns-clause-depth : goal.returns-clause-depth
returns-clause-depth g c = λ tree w p.
    let picture = c.args.picture.now in
    let loop = c.loop-line in
    let none = subst (λ (ls : List CertLine). IsAhead picture loop.trail (reverse loop.nests.items) ls loop.depth (depth_of tree)) (drop_all loop.line-index c.args.lines.now c.loop-line-test.false)
    (loop.invariant.ahead tree w p) in
    at_end picture loop.trail (reverse loop.nests.items) loop.depth (depth_of tree) none
