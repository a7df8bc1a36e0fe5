use Rattle.std.proofs.Common.{◌+◌, ◌/◌, ◌^◌, ◌==◌, arith, refl, bit_and}
use Rattle.line_settle.proofs.ColouringLemmas.{coloured_more, tested}
use Rattle.line_settle.proofs.positions.colour_cells.Goals as goal

pub loop-j-preserved : goal.loop-j-preserved
loop-j-preserved c =
    coloured_more c.args.set c.args.colour c.args.keep c.args.first (c.args.first + c.loop-j.j) (c.args.first + (c.loop-j.j + 1)) c.loop-j.j c.with_colour.result
    (bit_and (c.args.set / 2 ^ c.loop-j.j) 1 == 1) c.args.out.now c.loop-j.out refl (omega arith) (omega arith)
    (tested c.args.set c.loop-j.j) c.with_colour.ensures c.loop-j.invariant
