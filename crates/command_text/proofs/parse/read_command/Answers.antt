use Rattle.std.proofs.Common.{rules, codes}
use Rattle.std.proofs.lemmas.Slice.Eq.{text_from_reads}
use Rattle.command_text.proofs.parse.read_command.Goals as goal

pub returns-in-fill-clause-value : goal.returns-in-fill-clause-value
returns-in-fill-clause-value c = rw (text_from_reads c.args.word.now (codes "fill") (search rules) (search rules)) (search rules)

pub returns-in-recolour-clause-value : goal.returns-in-recolour-clause-value
returns-in-recolour-clause-value c = rw (text_from_reads c.args.word.now (codes "recolour") (search rules) (search rules)) (search rules)

pub returns-in-insert-clause-value : goal.returns-in-insert-clause-value
returns-in-insert-clause-value c = rw (text_from_reads c.args.word.now (codes "insert") (search rules) (search rules)) (search rules)

pub returns-in-delete-clause-value : goal.returns-in-delete-clause-value
returns-in-delete-clause-value c = rw (text_from_reads c.args.word.now (codes "delete") (search rules) (search rules)) (search rules)

pub returns-in-swap-clause-value : goal.returns-in-swap-clause-value
returns-in-swap-clause-value c = rw (text_from_reads c.args.word.now (codes "swap") (search rules) (search rules)) (search rules)

pub returns-in-colour-clause-value : goal.returns-in-colour-clause-value
returns-in-colour-clause-value c = rw (text_from_reads c.args.word.now (codes "colour") (search rules) (search rules)) (search rules)

pub returns-in-undo-clause-value : goal.returns-in-undo-clause-value
returns-in-undo-clause-value c = rw (text_from_reads c.args.word.now (codes "undo") (search rules) (search rules)) c.bare-in-undo.ensures.value

pub returns-in-redo-clause-value : goal.returns-in-redo-clause-value
returns-in-redo-clause-value c = rw (text_from_reads c.args.word.now (codes "redo") (search rules) (search rules)) c.bare-in-redo.ensures.value

pub returns-in-clues-clause-value : goal.returns-in-clues-clause-value
returns-in-clues-clause-value c = rw (text_from_reads c.args.word.now (codes "clues") (search rules) (search rules)) c.bare-in-clues.ensures.value

pub returns-in-verdict-clause-value : goal.returns-in-verdict-clause-value
returns-in-verdict-clause-value c = rw (text_from_reads c.args.word.now (codes "verdict") (search rules) (search rules)) c.bare-in-verdict.ensures.value

pub returns-in-certify-clause-value : goal.returns-in-certify-clause-value
returns-in-certify-clause-value c = rw (text_from_reads c.args.word.now (codes "certify") (search rules) (search rules)) c.bare-in-certify.ensures.value

pub returns-in-write-clause-value : goal.returns-in-write-clause-value
returns-in-write-clause-value c = rw (text_from_reads c.args.word.now (codes "write") (search rules) (search rules)) c.read_write.ensures.value

pub returns-in-report-clause-value : goal.returns-in-report-clause-value
returns-in-report-clause-value c = rw (text_from_reads c.args.word.now (codes "report") (search rules) (search rules)) c.bare-in-report.ensures.value

pub returns-in-allow-clause-value : goal.returns-in-allow-clause-value
returns-in-allow-clause-value c = rw (text_from_reads c.args.word.now (codes "allow") (search rules) (search rules)) c.read_allow.ensures.value

pub returns-in-paint-clause-value : goal.returns-in-paint-clause-value
returns-in-paint-clause-value c = rw (text_from_reads c.args.word.now (codes "paint") (search rules) (search rules)) (search rules)

pub returns-in-unpin-clause-value : goal.returns-in-unpin-clause-value
returns-in-unpin-clause-value c = rw (text_from_reads c.args.word.now (codes "unpin") (search rules) (search rules)) (search rules)

pub returns-in-assess-clause-value : goal.returns-in-assess-clause-value
returns-in-assess-clause-value c = rw (text_from_reads c.args.word.now (codes "assess") (search rules) (search rules)) c.read_assess.ensures.value

pub returns-in-path-clause-value : goal.returns-in-path-clause-value
returns-in-path-clause-value c = rw (text_from_reads c.args.word.now (codes "path") (search rules) (search rules)) c.bare-in-path.ensures.value
