use Rattle.std.proofs.Common.{◌∙◌, rules, sym}
use Rattle.clap.specs.Words.{kind_of}
use Rattle.command_line.proofs.WordLemmas.{is_display, is_mistake}
use Rattle.command_line.proofs.words.untaken.Goals as goal

pub returns-then-use_stderr-clause-said : goal.returns-then-use_stderr-clause-said
returns-then-use_stderr-clause-said c = (is_mistake (kind_of c.args.error.now) c.use_stderr.result c.use_stderr.ensures c.if-use_stderr.true, search rules)

pub returns-then-asks_alone-clause-said : goal.returns-then-asks_alone-clause-said
returns-then-asks_alone-clause-said c =
    (is_display (kind_of c.args.error.now) c.use_stderr.result c.use_stderr.ensures c.if-use_stderr.false, sym c.asks_alone.ensures ∙ c.if-asks_alone.true)

pub returns-else-asks_alone-clause-said : goal.returns-else-asks_alone-clause-said
returns-else-asks_alone-clause-said c =
    (is_display (kind_of c.args.error.now) c.use_stderr.result c.use_stderr.ensures c.if-use_stderr.false, sym c.asks_alone.ensures ∙ c.if-asks_alone.false)
