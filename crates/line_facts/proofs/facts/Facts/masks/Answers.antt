use Rattle.std.proofs.Common.{◌∙◌, sym, arith}
use Rattle.line_facts.proofs.FactLemmas.{known}
use Rattle.line_facts.proofs.facts.Facts.masks.Goals as goal

pub returns-clause-count : goal.returns-clause-count
returns-clause-count c =
    let k = known _ _ _ _ c.self.view_is c.self.invariant in
    rw (c.as_slice.ensures.value, k.tall, k.wide) c.self.invariant.count

pub returns-clause-cells : goal.returns-clause-cells
returns-clause-cells c = λ row col in_rows in_columns.
    let k = known _ _ _ _ c.self.view_is c.self.invariant in
    rw (c.as_slice.ensures.value, k.wide) (sym (k.cell row col (omega arith) (omega arith)))
