use Rattle.line_facts.proofs.GridLaws.{shape_trans, shape_with_cell}
use Rattle.trail.proofs.trail.Trail.advance.Goals as goal

pub returns-in_ok-begin-in-Each-clause-same_shape : goal.returns-in_ok-begin-in-Each-clause-same_shape
returns-in_ok-begin-in-Each-clause-same_shape c = rw (← c.self.view_is) (shape_trans c.put_back.ensures.same_shape c.in_ok-begin-in-Each.ensures.same_shape)

pub returns-in_ok-hold-in-Whole-clause-same_shape : goal.returns-in_ok-hold-in-Whole-clause-same_shape
returns-in_ok-hold-in-Whole-clause-same_shape c = rw (← c.self.view_is) (shape_trans c.put_back.ensures.same_shape (rw c.in_ok-hold-in-Whole.ensures.holds (shape_with_cell _ _ _ _)))
