use Rattle.std.proofs.Common.{◌≡◌, ◌<◌, ◌^◌, ap, arith, get_or}
use Rattle.line_facts.proofs.WriteLemmas.{all_written, across_place, one_more, place_in, row_long}
use Rattle.line_facts.proofs.facts.write_row.Goals as goal

pub bounds-masks-from : goal.bounds-masks-from
bounds-masks-from c =
    let long = row_long c.args.height c.args.width c.args.cells.now c.args.line c.args.masks.now c.requires.cells c.requires.line c.requires.whole c.requires.axis in
    omega (arith, long, c.from.ensures, c.loop-col-test.true)

pub bounds-cells-from : goal.bounds-cells-from
bounds-cells-from c =
    let i = c.loop-col.col in
    let long = row_long c.args.height c.args.width c.args.cells.now c.args.line c.args.masks.now c.requires.cells c.requires.line c.requires.whole c.requires.axis in
    place_in c.args.height c.args.width c.args.cells.now c.args.line c.args.masks.now c.requires.cells c.requires.line c.requires.whole c.loop-col.cells i (omega (arith, long, c.loop-col-test.true))
    c.loop-col.invariant _ (across_place c.args.line c.args.width i _ _ _ c.requires.axis c.from-in-loop-col.ensures c.from-in-loop-col-2.ensures c.from-in-loop-col-3.ensures)

pub loop-col-preserved : goal.loop-col-preserved
loop-col-preserved c =
    let i = c.loop-col.col in
    let long = row_long c.args.height c.args.width c.args.cells.now c.args.line c.args.masks.now c.requires.cells c.requires.line c.requires.whole c.requires.axis in
    let mask : get_or c.args.masks.now c.from.result 0 ≡ get_or c.args.masks.now i 0 = ap (λ n. get_or c.args.masks.now n 0) c.from.ensures in
    let fits : get_or c.args.masks.now c.from.result 0 < 2 ^ 16 = (let f = c.type_inv.masks c.from.result in omega arith) in
    one_more c.args.height c.args.width c.args.cells.now c.args.line c.args.masks.now c.requires.cells c.requires.line c.requires.whole c.loop-col.cells i (omega (arith, long, c.loop-col-test.true))
    c.loop-col.invariant _ _ (across_place c.args.line c.args.width i _ _ _ c.requires.axis c.from-in-loop-col.ensures c.from-in-loop-col-2.ensures c.from-in-loop-col-3.ensures) mask fits

pub returns-clause-holds : goal.returns-clause-holds
returns-clause-holds c =
    let long = row_long c.args.height c.args.width c.args.cells.now c.args.line c.args.masks.now c.requires.cells c.requires.line c.requires.whole c.requires.axis in
    all_written c.args.height c.args.width c.args.cells.now c.args.line c.args.masks.now c.requires.cells c.requires.line c.requires.whole c.loop-col.cells c.loop-col.col
    (omega (arith, long, c.loop-col-test.false)) c.loop-col.invariant
