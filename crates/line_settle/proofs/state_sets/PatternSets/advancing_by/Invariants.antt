use Rattle.std.proofs.Common.{map}
use Rattle.line_settle.proofs.StateSetLemmas.{Taken}
use Rattle.line_settle.proofs.state_sets.PatternSets.advancing_by.Given as goal

abbrev pub invariant-colours : goal.invariant-colours
invariant-colours g l = record {
  taken : Taken (map g.W.Word.bits l.self.next.now) l.colours l.rest (g.W.Word.bits l.advancing);
}

abbrev pub decreases-colours : goal.decreases-colours
decreases-colours g l = l.rest
