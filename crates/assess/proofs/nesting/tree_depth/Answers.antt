use Rattle.assess.proofs.nesting.tree_depth.Goals as goal

pub returns-clause-depth : goal.returns-clause-depth
returns-clause-depth g c = λ tree t. absurd (c.in-Err.ensures.outside (rw c.givens.ensures t.0))
