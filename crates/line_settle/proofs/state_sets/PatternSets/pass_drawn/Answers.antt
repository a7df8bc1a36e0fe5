use Rattle.line_settle.specs.StateSets.{sets_of}
use Rattle.line_settle.proofs.SweepLemmas.{foreign_is, none_over}
use Rattle.line_settle.proofs.state_sets.PatternSets.pass_drawn.Goals as goal

pub returns-then-colours-self-eq0 : goal.returns-then-colours-self-eq0
returns-then-colours-self-eq0 g c = λ pattern test are is.
    let sets = sets_of g.W.Word.bits c.args.self.now in
    rw c.low.ensures (none_over g.D.Direction.end g.W.Word.width pattern sets c.args.colours test are (foreign_is sets.colours c.args.colours c.if-colours-self-eq0.true))
