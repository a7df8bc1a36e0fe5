use Rattle.command_line.proofs.CommandLemmas.{formatted}
use Rattle.command_line.proofs.command.prove_command.Goals as goal

pub returns-clause-shape : goal.returns-clause-shape
returns-clause-shape c = formatted c.in_ok-searching.field-0 c.form.result c.arg.result c.arg.ensures c.form.ensures.local c.in_ok-searching.ensures.shape c.form.ensures.rule
