use Rattle.line_settle.specs.StateSets.{sets_of}
use Rattle.line_settle.proofs.StateSetLemmas.{moves_made, all_moves}
use Rattle.line_settle.proofs.state_sets.PatternSets.moves_by.Goals as goal

pub returns-then-colours-self-clause-moves : goal.returns-then-colours-self-clause-moves
returns-then-colours-self-clause-moves g c = λ pattern are. all_moves g.W.Word.width pattern (sets_of g.W.Word.bits c.args.self.now) c.args.mask are c.if-colours-self.true

pub returns-clause-moves : goal.returns-clause-moves
returns-clause-moves g c = λ pattern are. moves_made g.W.Word.width pattern (sets_of g.W.Word.bits c.args.self.now) c.args.mask (g.W.Word.bits c.advancing_by.result)
    (g.W.Word.bits c.resting_by.result) are c.advancing_by.ensures c.resting_by.ensures
