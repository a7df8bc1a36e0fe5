use Rattle.command_text.specs.Lines.{steps_left}
use Rattle.session.specs.Run.{HasRun}
use Rattle.session.proofs.session.answer_lines.Given as goal

abbrev pub invariant-loop-request : goal.invariant-loop-request
invariant-loop-request g l =
    HasRun (g.R.Read.remaining l.fn.reader) (g.R.Read.remaining l.reader) (g.W.Write.contents l.fn.writer) (g.W.Write.contents l.writer) l.fn.bench l.bench l.lines

abbrev pub decreases-loop-request : goal.decreases-loop-request
decreases-loop-request g l = steps_left l.lines
