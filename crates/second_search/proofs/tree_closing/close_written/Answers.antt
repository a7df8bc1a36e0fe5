use Rattle.std.proofs.Common.{◌∙◌, refl, arith}
use Rattle.line_facts.specs.declared.line_engine.Outcome.TheVariants.{Narrowed, Dead}
use Rattle.second_search.proofs.KeepLemmas.{can_close_like}
use Rattle.second_search.proofs.TreeLemmas.{settles_none, settles_on}
use Rattle.second_search.proofs.tree_closing.close_written.Goals as goal

pub loop-init : goal.loop-init
loop-init g c = record {
  settles = settles_none c.args.clues.now c.args.facts.now c.args.lines.now;
  closable = c.requires;
  calls = omega arith;
  few = omega arith;
  same_longest = refl;
}

pub returns-in-Dead-clause-settles : goal.returns-in-Dead-clause-settles
returns-in-Dead-clause-settles g c =
    let clues = c.args.clues.now in
    settles_on clues c.args.facts.now c.loop.facts c.take_line.new.facts c.args.lines.now c.loop.lines c.take_line.new.lines Dead c.loop.invariant.settles
    (rw c.in-Dead.is at c.in_ok-forced.ensures.settles)

pub loop-preserved : goal.loop-preserved
loop-preserved g c =
    let clues = c.args.clues.now in
    let here = rw c.in-Narrowed.is at c.in_ok-forced.ensures.settles in
    record {
      settles = settles_on clues c.args.facts.now c.loop.facts c.take_line.new.facts c.args.lines.now c.loop.lines c.take_line.new.lines Narrowed c.loop.invariant.settles here;
      closable = can_close_like clues (g.E.LineEngine.longest c.loop.engine)
          (g.E.LineEngine.longest c.take_line.new.engine) c.loop.facts c.take_line.new.facts here.0.same_shape c.take_line.ensures.same_longest c.loop.invariant.closable;
      calls = omega arith;
      few = omega arith;
      same_longest = c.take_line.ensures.same_longest ∙ c.loop.invariant.same_longest;
    }
