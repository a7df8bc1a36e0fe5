use Rattle.std.proofs.Common.{◌+◌, ◌-◌, ◌*◌, length, ap, arith}
use Rattle.line_settle.proofs.StoreLemmas.{row_kept}
use Rattle.line_settle.proofs.tables.store_row.Goals as goal

pub returns-clause-others : goal.returns-clause-others
returns-clause-others c = λ j q n l.
    let w = length c.args.row.now in
    let i = c.args.i in
    row_kept c.args.table.now c.copy_from_slice.new.self w (i * w + w - i * w) i j q (omega arith) c.requires (ap length c.copy_from_slice.ensures.after) n l
