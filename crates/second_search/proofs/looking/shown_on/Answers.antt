use Rattle.std.proofs.Common.{arith}
use Rattle.second_search.proofs.looking.shown_on.Goals as goal

pub show_row-requires-clause-shown : goal.show_row-requires-clause-shown
show_row-requires-clause-shown c = λ out col l.
    let row = c.loop-row.row in
    rw (c.loop-row.invariant.below row col (omega arith)) (c.requires.others row col out (omega arith) l)
