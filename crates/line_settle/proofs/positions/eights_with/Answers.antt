use Rattle.std.proofs.Common.{◌-◌, ◌*◌, ◌%◌, ◌^◌, ◌<◌, arith, length}
use Rattle.line_settle.proofs.GatheringLemmas.{gathered_first, whole_both, overlapped}
use Rattle.line_settle.proofs.positions.eights_with.Goals as goal

pub returns : goal.returns
returns c =
    let left = c.args.left.now in
    let n = length left in
    let front = c.eight_with.result in
    let low = c.eight_with-2.result in
    let small : low < 2 ^ 8 = omega (arith, c.eight_with-2.ensures.no_more) in
    let few : front < 2 ^ 8 = omega (arith, c.eight_with.ensures.no_more) in
    whole_both left front (low * 2 ^ (n - 8) % 2 ^ 64) c.args.colour (omega (arith, c.eight_with.ensures.no_more)) (omega arith) (omega (arith, c.requires.short))
    (overlapped 64 8 left front low c.args.colour 8 (n - 8) (omega (arith, c.requires.some)) (omega (arith, c.requires.short)) c.requires.some
    (omega (arith, c.requires.short)) small c.eight_with-2.ensures.each
    (λ j h. gathered_first 8 left front c.args.colour few c.eight_with.ensures.each j))
