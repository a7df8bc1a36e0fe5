use Rattle.std.proofs.Common.{◌∙◌, arith}
use Rattle.picture.specs.Rows.{line_of}
use Rattle.clues.specs.ClueBook.{clue_at}
use Rattle.line_facts.specs.Fits.{CanFit}
use Rattle.second_search.proofs.LookLemmas.{below_next}
use Rattle.second_search.proofs.tree_step.dead_along.Goals as goal

pub loop-at-preserved : goal.loop-at-preserved
loop-at-preserved g c = record {
  fit = below_next (λ at. CanFit (clue_at c.args.clues.now (record { axis = c.args.axis; at = at })) (line_of c.args.facts.now (record { axis = c.args.axis; at = at }))) c.loop-at.at
      c.loop-at.invariant.fit (c.in_ok-some_fits.ensures.fits.0 c.if-not-branch.false);
  calls = omega arith;
  few = omega arith;
  same_longest = c.some_fits.ensures.same_longest ∙ c.loop-at.invariant.same_longest;
}
