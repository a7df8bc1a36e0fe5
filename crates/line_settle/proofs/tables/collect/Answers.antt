use Rattle.std.proofs.Common.{arith, ◌∙◌, ◌+◌, ◌*◌, ◌-◌, length, take, drop}
use Rattle.line_settle.specs.Patterns.{truth_at}
use Rattle.line_settle.proofs.FillLemmas.{reached_behind, written_more, later_row}
use Rattle.line_settle.proofs.tables.collect.Goals as goal

pub loop-i-preserved : goal.loop-i-preserved
loop-i-preserved c =
    let pattern = c.args.pattern.now in
    let left = c.args.left.now in
    let i = c.loop-i.i in
    let w = length c.loop-i.row in
    let later = take ((i + 1) * w + w - (i + 1) * w) (drop ((i + 1) * w) c.args.table.now) in
    record {
      row_is = λ q l. c.step_forward.ensures q l ∙ reached_behind pattern left i (truth_at c.loop-i.row) c.loop-i.invariant.row_is q l;
      written = written_more pattern left c.loop-i.out i c.colours_through.result (truth_at c.loop-i.row) (truth_at later) (omega arith) c.colours_through.ensures c.loop-i.invariant.row_is
          (later_row pattern left c.args.table.now w (length c.args.row.now) ((i + 1) * w + w - (i + 1) * w) i (omega arith) (omega arith) c.requires.row (omega arith) c.requires.marked)
          c.loop-i.invariant.written;
    }
