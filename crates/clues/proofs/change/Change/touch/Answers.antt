-- One more line is touched.
use Rattle.clues.specs.Change.{moves_from}
use Rattle.clues.proofs.TouchedLines.{follows_more}
use Rattle.clues.proofs.change.Change.touch.Goals as goal

pub returns-clause-follows : goal.returns-clause-follows
returns-clause-follows c = λ old new follows.
    follows_more (moves_from c.self.inside.height c.self.inside.width c.self.inside.rows c.self.inside.columns) c.self.inside.marked c.put.new.self c.args.line c.put.ensures.members old new
    (rw (← c.self.view_is) at follows)
