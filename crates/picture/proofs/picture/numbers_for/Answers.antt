use Rattle.std.proofs.Common.{take, arith}
use Rattle.picture.specs.Document.{triples_of}
use Rattle.picture.proofs.OrderLemmas.{triples_more, seen_more, numbered_more}
use Rattle.picture.proofs.RoomLemmas.{there, among_more}
use Rattle.picture.proofs.picture.numbers_for.Goals as goal

pub loop-cell-preserved : goal.loop-cell-preserved
loop-cell-preserved c =
    let triples = c.args.colours.now.triples in
    let seen = triples_of triples (take c.loop-cell.cell-index c.args.cells.now) in
    let so_far = c.loop-cell.invariant.palette in
    let step = c.in_ok-number_for.ensures.palette in
    let more = triples_more triples c.args.cells.now c.loop-cell.cell-index c.rgb.result (omega arith) c.rgb.ensures.stands in
    record {
      among = among_more c.loop-cell.palette c.number_for.new.self c.args.colours.now c.rgb.result c.loop-cell.invariant.among (there triples _ c.rgb.result c.rgb.ensures.stands) step;
      palette = rw more (seen_more c.args.palette.now seen c.rgb.result c.loop-cell.palette c.number_for.new.self so_far step);
      numbers = rw more (numbered_more c.args.palette.now seen c.rgb.result c.loop-cell.palette c.number_for.new.self c.loop-cell.numbers.items c.push.new.self.items _ so_far step
          c.loop-cell.invariant.numbers c.in_ok-number_for.ensures.number c.in_ok-push.ensures.items);
    }
