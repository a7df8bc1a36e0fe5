use Rattle.command_text.proofs.LineLemmas.{kept_more}
use Rattle.command_text.proofs.draft.Draft.extend.Goals as goal

pub returns : goal.returns
returns c = rw c.copy_from_slice.ensures.after (kept_more _ _ _ _ _ c.self.view_is c.self.invariant c.self.told c.min-count.ensures)
