use Rattle.std.proofs.Common.{arith}
use Rattle.picture.proofs.CellSetLemmas.{takes_out, absent_out, fewer_out}
use Rattle.picture.proofs.cell_set.CellSet.take_out.Goals as goal

pub returns-clause-members : goal.returns-clause-members
returns-clause-members c = rw (← c.self.view_is) (takes_out c.self.inside.rows c.args.row c.args.col c.self.invariant (omega arith) (omega arith))

pub returns-clause-absent : goal.returns-clause-absent
returns-clause-absent c = rw (← c.self.view_is) (absent_out c.self.inside.rows c.args.row c.args.col c.self.invariant (omega arith) (omega arith))

pub returns-clause-fewer : goal.returns-clause-fewer
returns-clause-fewer c = rw (← c.self.view_is) (fewer_out c.self.inside.rows c.args.row c.args.col c.self.invariant (omega arith) (omega arith))
