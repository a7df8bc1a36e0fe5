use Rattle.command_text.proofs.LineLemmas.{skipped}
use Rattle.command_text.proofs.lines.Inbox.skip.Goals as goal

pub returns : goal.returns
returns c = skipped _ _ _ _ _ c.self.view_is c.requires
