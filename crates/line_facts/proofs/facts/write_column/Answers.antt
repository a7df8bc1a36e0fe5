use Rattle.std.proofs.Common.{◌≡◌, ◌<◌, ◌^◌, ap, arith, get_or}
use Rattle.line_facts.proofs.WriteLemmas.{all_written, down_place, one_more, place_in, column_long}
use Rattle.line_facts.proofs.facts.write_column.Goals as goal

pub bounds-masks-from : goal.bounds-masks-from
bounds-masks-from c =
    let long = column_long c.args.height c.args.width c.args.cells.now c.args.line c.args.masks.now c.requires.cells c.requires.line c.requires.whole c.requires.axis in
    omega (arith, long, c.from.ensures, c.loop-row-test.true)

pub bounds-cells-from : goal.bounds-cells-from
bounds-cells-from c =
    let i = c.loop-row.row in
    let long = column_long c.args.height c.args.width c.args.cells.now c.args.line c.args.masks.now c.requires.cells c.requires.line c.requires.whole c.requires.axis in
    place_in c.args.height c.args.width c.args.cells.now c.args.line c.args.masks.now c.requires.cells c.requires.line c.requires.whole c.loop-row.cells i (omega (arith, long, c.loop-row-test.true))
    c.loop-row.invariant _ (down_place c.args.line c.args.width i _ _ _ c.requires.axis c.from-in-loop-row.ensures c.from-in-loop-row-2.ensures c.from-in-loop-row-3.ensures)

pub loop-row-preserved : goal.loop-row-preserved
loop-row-preserved c =
    let i = c.loop-row.row in
    let long = column_long c.args.height c.args.width c.args.cells.now c.args.line c.args.masks.now c.requires.cells c.requires.line c.requires.whole c.requires.axis in
    let mask : get_or c.args.masks.now c.from.result 0 ≡ get_or c.args.masks.now i 0 = ap (λ n. get_or c.args.masks.now n 0) c.from.ensures in
    let fits : get_or c.args.masks.now c.from.result 0 < 2 ^ 16 = (let f = c.type_inv.masks c.from.result in omega arith) in
    one_more c.args.height c.args.width c.args.cells.now c.args.line c.args.masks.now c.requires.cells c.requires.line c.requires.whole c.loop-row.cells i (omega (arith, long, c.loop-row-test.true))
    c.loop-row.invariant _ _ (down_place c.args.line c.args.width i _ _ _ c.requires.axis c.from-in-loop-row.ensures c.from-in-loop-row-2.ensures c.from-in-loop-row-3.ensures) mask fits

pub returns-clause-holds : goal.returns-clause-holds
returns-clause-holds c =
    let long = column_long c.args.height c.args.width c.args.cells.now c.args.line c.args.masks.now c.requires.cells c.requires.line c.requires.whole c.requires.axis in
    all_written c.args.height c.args.width c.args.cells.now c.args.line c.args.masks.now c.requires.cells c.requires.line c.requires.whole c.loop-row.cells c.loop-row.row
    (omega (arith, long, c.loop-row-test.false)) c.loop-row.invariant
