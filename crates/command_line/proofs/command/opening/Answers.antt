use Rattle.command_line.proofs.CommandLemmas.{formatted}
use Rattle.command_line.proofs.command.opening.Goals as goal

pub returns-clause-shape : goal.returns-clause-shape
returns-clause-shape c = formatted c.in_ok-file_command.field-0 c.format.result c.arg.result c.arg.ensures c.format.ensures.local c.in_ok-file_command.ensures.shape c.format.ensures.rule
