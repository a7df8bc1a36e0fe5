use Rattle.std.proofs.Common.{arith}
use Rattle.picture.proofs.CellSetLemmas.{puts, stays_put, known_put, more_put}
use Rattle.picture.proofs.cell_set.CellSet.put.Goals as goal

pub returns-clause-members : goal.returns-clause-members
returns-clause-members c = rw (← c.self.view_is) (puts c.self.inside.rows c.args.row c.args.col c.self.invariant (omega arith) (omega arith))

pub returns-clause-set : goal.returns-clause-set
returns-clause-set c = stays_put c.self.inside.rows c.args.row c.args.col c.self.invariant (omega arith) (omega arith)

pub returns-clause-known : goal.returns-clause-known
returns-clause-known c = rw (← c.self.view_is) (known_put c.self.inside.rows c.args.row c.args.col c.self.invariant (omega arith) (omega arith))

pub returns-clause-more : goal.returns-clause-more
returns-clause-more c = rw (← c.self.view_is) (more_put c.self.inside.rows c.args.row c.args.col c.self.invariant (omega arith) (omega arith))

pub invariant_of-self : goal.invariant_of-self
invariant_of-self c = stays_put c.self.inside.rows c.args.row c.args.col c.self.invariant (omega arith) (omega arith)
