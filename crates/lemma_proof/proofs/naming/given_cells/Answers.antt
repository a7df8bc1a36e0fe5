use Rattle.std.proofs.Common.{arith}
use Rattle.lemma_proof.proofs.NumberLemmas.{all_named, row_named}
use Rattle.lemma_proof.proofs.naming.given_cells.Goals as goal

pub loop-row-preserved : goal.loop-row-preserved
loop-row-preserved c =
    row_named c.args.picture.now c.args.givens.now c.loop-row.row c.width.result c.put_row.new.cells.items c.requires c.width.ensures.value (omega arith) c.in_ok-put_row.ensures.named

pub returns : goal.returns
returns c =
    record {
      named = all_named c.args.picture.now c.args.givens.now c.loop-row.row c.loop-row.cells.items c.requires (omega arith) c.loop-row.invariant;
    }
