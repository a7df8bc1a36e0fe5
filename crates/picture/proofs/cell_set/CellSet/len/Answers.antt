use Rattle.std.proofs.Common.{arith, count_ones}
use Rattle.std.proofs.lemmas.List.Sums.{sum_by_more}
use Rattle.picture.proofs.CellSetLemmas.{few_ones}
use Rattle.picture.proofs.cell_set.CellSet.len.Goals as goal

pub loop-mask-preserved : goal.loop-mask-preserved
loop-mask-preserved c =
    let few = few_ones c.self.inside.rows c.loop-mask.mask-index c.self.invariant in
    let more = sum_by_more count_ones c.self.inside.rows c.loop-mask.mask-index 0 (omega arith) in
    record { counted = omega arith; few = omega arith }
