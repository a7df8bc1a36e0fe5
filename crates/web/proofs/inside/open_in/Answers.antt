use Rattle.std.proofs.Common.{sym, ◌∙◌}
use Rattle.web.proofs.inside.open_in.Goals as goal

-- src/inside.rt:12:1
pub returns : goal.returns
returns c = rw c.new.ensures (rw (sym (c.deref_mut.ensures.value ∙ c.into_box-desk.ensures)) c.open-answer.ensures)
