use Rattle.std.proofs.Common.{◌≡◌, ◌+◌, ◌-◌, ◌*◌, ◌/◌, ◌%◌, ◌^◌, ◌<◌, ◌∙◌, ap, arith, length, take, get_or}
use Rattle.line_settle.specs.Patterns.{allows}
use Rattle.line_settle.proofs.GatheringLemmas.{none_taken, gathered_on, whole_word, whole_taken, whole_both, overlapped}
use Rattle.line_settle.proofs.positions.near_with.Goals as goal

pub loop-chunk-init : goal.loop-chunk-init
loop-chunk-init c = λ j h. none_taken c.args.left.now c.args.colour (16 * 0) j (omega arith)

pub loop-chunk-preserved : goal.loop-chunk-preserved
loop-chunk-preserved c =
    gathered_on 64 16 c.args.left.now c.loop-chunk.cells c.sixteen_with.result c.args.colour (16 * c.loop-chunk.chunk) (16 * (c.loop-chunk.chunk + 1)) (omega arith)
    (omega (arith, c.sixteen_with.ensures.no_more)) c.sixteen_with.ensures.each c.loop-chunk.invariant

pub returns-then-left-lt8 : goal.returns-then-left-lt8
returns-then-left-lt8 c = whole_word c.args.left.now c.few_with.result c.args.colour c.few_with.type_inv c.requires.short c.few_with.ensures

pub returns-then-left-eq0 : goal.returns-then-left-eq0
returns-then-left-eq0 c =
    let left = c.args.left.now in
    whole_word left c.loop-chunk.cells c.args.colour (let p = c.loop-chunk.auto.cells-fits in omega arith) c.requires.short
    (λ j h. c.loop-chunk.invariant j h ∙ whole_taken left c.args.colour (16 * c.loop-chunk.chunk) j (omega arith))

pub returns : goal.returns
returns c =
    let left = c.args.left.now in
    let n = length left in
    let low = c.sixteen_with-2.result in
    let small : low < 2 ^ 16 = omega (arith, c.sixteen_with-2.ensures.no_more) in
    whole_both left c.loop-chunk.cells (low * 2 ^ (n - 16) % 2 ^ 64) c.args.colour (let p = c.loop-chunk.auto.cells-fits in omega arith) (omega arith) c.requires.short
    (overlapped 64 16 left c.loop-chunk.cells low c.args.colour (16 * (n / 16)) (n - 16) (omega arith) (omega arith) (omega arith) (omega arith) small c.sixteen_with-2.ensures.each
    (λ j h. c.loop-chunk.invariant j h ∙ ap (λ m. allows (get_or (take m left) j 0) c.args.colour) (let e : 16 * c.loop-chunk.chunk ≡ 16 * (n / 16) = omega arith in e)))
