use Rattle.std.proofs.Common.{arith, refl}
use Rattle.second_search.proofs.WithinLemmas.{more_open}
use Rattle.second_search.proofs.near.open_cell.Goals as goal

pub returns-then-is_none : goal.returns-then-is_none
returns-then-is_none c = more_open c.args.facts.now c.args.cells.now c.args.window.now c.put.new.self c.put_both.new.lines c.args.row c.args.col (omega arith) (omega arith)
    (c.if-has.ensures.value.0 refl) c.requires c.put.ensures.members c.put_both.ensures
