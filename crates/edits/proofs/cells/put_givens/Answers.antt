use Rattle.edits.proofs.GivenLemmas.{given_more, inside_more}
use Rattle.edits.proofs.cells.put_givens.Goals as goal

pub loop-row-preserved : goal.loop-row-preserved
loop-row-preserved c =
    let inside = c.requires.places c.loop-row.row-index (0, 0) c.loop-row-test.true in
    record {
      marks = given_more c.args.picture.now c.args.givens.now c.loop-row.givens c.put.new.self c.args.places.now c.loop-row.row-index
          (0, 0) c.loop-row-test.true inside c.put.ensures.members c.loop-row.invariant.marks;
      inside = inside_more c.args.picture.now c.loop-row.givens c.put.new.self _ _ inside.0 inside.1 c.put.ensures.members c.loop-row.invariant.inside;
    }
