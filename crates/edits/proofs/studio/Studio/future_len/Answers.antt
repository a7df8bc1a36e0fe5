use Rattle.std.proofs.Common.{◌∙◌}
use Rattle.edits.specs.Design.{design_of}
use Rattle.edits.proofs.RingLemmas.{future_long}
use Rattle.edits.proofs.studio.Studio.future_len.Goals as goal

pub returns : goal.returns
returns c = rw (← c.self.view_is) (c.len.ensures.len ∙ future_long (design_of c.self.inside.document) c.self.inside.future.items)
