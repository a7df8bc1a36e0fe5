use Rattle.edits.specs.Design.{design_of}
use Rattle.edits.proofs.RingLemmas.{comes}
use Rattle.edits.proofs.studio.Studio.commit.Goals as goal

pub invariant_of-self : goal.invariant_of-self
invariant_of-self c =
    rw (c.go_on.ensures.past, c.go_on.ensures.future)
    (comes (design_of c.self.inside.document)
    (design_of c.prepared.inside.document) c.self.inside.past c.self.inside.future c.prepared.inside.step c.prepared.inside.change c.know.ensures.design c.self.invariant
    (rw (c.self.view_is, c.prepared.view_is) c.requires)).rings

pub returns : goal.returns
returns c =
    rw (c.go_on.ensures.past, c.go_on.ensures.future, ← c.self.view_is, ← c.prepared.view_is)
    (comes (design_of c.self.inside.document)
    (design_of c.prepared.inside.document) c.self.inside.past c.self.inside.future c.prepared.inside.step c.prepared.inside.change c.know.ensures.design c.self.invariant
    (rw (c.self.view_is, c.prepared.view_is) c.requires)).same
