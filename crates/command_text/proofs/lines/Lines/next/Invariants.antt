use Rattle.command_text.specs.Lines.{Drafts, steps_left}
use Rattle.command_text.proofs.lines.Lines.next.Given as goal

abbrev pub invariant-loop-self : goal.invariant-loop-self
invariant-loop-self g l = Drafts (g.R.Read.remaining l.fn.reader) (g.R.Read.remaining l.reader) l.fn.self l.self l.draft

abbrev pub decreases-loop-self : goal.decreases-loop-self
decreases-loop-self g l = steps_left l.self
