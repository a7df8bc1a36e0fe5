use Rattle.std.proofs.Common.{◌*◌, ◌%◌, ◌^◌, arith}
use Rattle.std.specs.Simd.Lanes.{chunk}
use Rattle.std.proofs.lemmas.Simd.{length-chunk}
use Rattle.line_settle.proofs.GatheringLemmas.{compared_each, compared-lt}
use Rattle.line_settle.proofs.positions.sixteen_with.Goals as goal

pub returns-clause-each : goal.returns-clause-each
returns-clause-each c = λ i l. compared_each 16 c.args.left.now c.args.first c.args.colour i (omega arith) c.requires.colour c.requires.room l

pub returns-clause-no_more : goal.returns-clause-no_more
returns-clause-no_more c = compared-lt 16 (1 * 2 ^ c.args.colour % 65536) (chunk c.args.first 16 c.args.left.now) (omega arith) (length-chunk c.args.first 16 c.args.left.now c.requires.room)
