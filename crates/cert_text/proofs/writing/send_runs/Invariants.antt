use Rattle.std.proofs.Common.{drop}
use Rattle.cert_text.proofs.WriteLemmas.{RunsSent}
use Rattle.cert_text.proofs.writing.send_runs.Given as goal

abbrev pub invariant-loop-run : goal.invariant-loop-run
invariant-loop-run g l = RunsSent (g.W.Write.contents l.fn.writer) (g.W.Write.contents l.writer) l.runs l.steps (drop l.run-index l.runs) l.rest
