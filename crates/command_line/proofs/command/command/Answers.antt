use Rattle.command_line.proofs.CommandLemmas.{command_made}
use Rattle.command_line.proofs.command.command.Goals as goal

pub returns : goal.returns
returns c =
    command_made c.in_ok-top.top c.in_ok-work.work c.in_ok-command.command c.in_ok-check.check c.in_ok-command-2.command c.in_ok-prove.prove c.in_ok-command-3.command
    c.in_ok-assess.assess
    c.subcommand-4.result c.in_ok-top.ensures.app c.in_ok-command.ensures c.in_ok-command-2.ensures c.in_ok-command-3.ensures c.subcommand-4.ensures
    c.in_ok-work.ensures.local c.in_ok-check.ensures.local c.in_ok-prove.ensures.local c.in_ok-assess.ensures.local
    c.in_ok-check.ensures.shape c.in_ok-prove.ensures.shape c.in_ok-assess.ensures.shape c.in_ok-work.ensures.shape
