use Rattle.std.proofs.Common.{rules}
use Rattle.cert_text.specs.Text.{lines_of}
use Rattle.text_check.specs.Givens.{cells_of}
use Rattle.text_check.proofs.GivensLemmas.{set_bad, set_end, set_place, set_repeated}
use Rattle.text_check.proofs.givens.published_cells.Goals as goal

pub returns-in_default-cell_on-clause-read : goal.returns-in_default-cell_on-clause-read
returns-in_default-cell_on-clause-read c =
    set_bad c.args.height c.args.width c.loop-line.cells c.loop-line.number (lines_of c.loop-line.rest.now)
    (cells_of c.args.height c.args.width c.args.bytes.now) c.loop-line.invariant.left c.in-Some.line.now
    (lines_of c.in-Some.behind.now) c.in-Some.ensures.0 c.in_default-cell_on.ensures

pub returns-in_default-cell_in-clause-read : goal.returns-in_default-cell_in-clause-read
returns-in_default-cell_in-clause-read c =
    set_place c.args.height c.args.width c.loop-line.cells c.loop-line.number (lines_of c.loop-line.rest.now)
    (cells_of c.args.height c.args.width c.args.bytes.now) c.loop-line.invariant.left c.in-Some.line.now
    (lines_of c.in-Some.behind.now) c.in-Some.ensures.0 c.in-Some-cell_on.cell c.in-Some-cell_on.ensures c.in_default-cell_in.ensures

pub returns-then-has-clause-read : goal.returns-then-has-clause-read
returns-then-has-clause-read c =
    set_repeated c.args.height c.args.width c.loop-line.cells c.loop-line.number (lines_of c.loop-line.rest.now)
    (cells_of c.args.height c.args.width c.args.bytes.now) c.loop-line.invariant.left c.in-Some.line.now
    (lines_of c.in-Some.behind.now) c.in-Some.ensures.0 c.in-Some-cell_on.cell c.in-Some-cell_on.ensures c.in-Some-cell_in.row c.in-Some-cell_in.col
    c.in-Some-cell_in.ensures.0 c.in-Some-cell_in.ensures.1 c.in-Some-cell_in.ensures.2 (c.has.ensures.value.0 (search rules))

pub returns-clause-read : goal.returns-clause-read
returns-clause-read c =
    set_end c.args.height c.args.width c.loop-line.cells c.loop-line.number (lines_of c.loop-line.rest.now)
    (cells_of c.args.height c.args.width c.args.bytes.now) c.loop-line.invariant.left c.in_default.ensures
