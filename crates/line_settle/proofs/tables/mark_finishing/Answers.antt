use Rattle.std.proofs.Common.{arith, ◌-◌, length}
use Rattle.line_settle.specs.Patterns.{truth_at}
use Rattle.line_settle.proofs.FillLemmas.{last_finishes, last_stored, stored_more, finishing_behind}
use Rattle.line_settle.proofs.tables.mark_finishing.Goals as goal

pub loop-i-init : goal.loop-i-init
loop-i-init c =
    let row = last_finishes c.args.pattern.now c.args.left.now c.mark_state.new.row c.requires.begun c.mark_state.ensures in
    record {
      row_is = λ q l. row q;
      stored = last_stored c.args.pattern.now c.args.left.now c.store_row.new.table c.mark_state.new.row (length c.mark_state.new.row) (omega arith) c.store_row.ensures.stored (λ q l. row q);
    }

pub loop-i-preserved : goal.loop-i-preserved
loop-i-preserved c =
    let pattern = c.args.pattern.now in
    let left = c.args.left.now in
    let i = c.loop-i.i in
    let w = length c.step_back.new.row in
    let row = finishing_behind pattern left (i - 1) i (truth_at c.loop-i.row) (truth_at c.step_back.new.row) (omega arith) (omega arith) c.loop-i.invariant.row_is c.step_back.ensures in
    record {
      row_is = row;
      stored = stored_more pattern left c.loop-i.table c.store_row-in-loop-i.new.table c.step_back.new.row w (length c.loop-i.row) (i - 1) i (omega arith) (omega arith)
          (omega arith) c.store_row-in-loop-i.ensures.stored c.store_row-in-loop-i.ensures.others row c.loop-i.invariant.stored;
    }
