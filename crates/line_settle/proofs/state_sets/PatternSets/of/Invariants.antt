use Rattle.std.proofs.Common.{◌≡◌, map}
use Rattle.line_settle.specs.Patterns.{pattern_of}
use Rattle.line_settle.specs.LaidBlocks.{state_behind}
use Rattle.line_settle.specs.StateSets.{AreNext, AreWaiting, HasColours}
use Rattle.line_settle.proofs.state_sets.PatternSets.of.Given as goal

abbrev pub invariant-loop-j : goal.invariant-loop-j
invariant-loop-j g l = record {
  state_is : l.state ≡ state_behind 0 l.blocks l.j;
  next_are : AreNext (pattern_of l.blocks) l.state (map g.W.Word.bits l.next);
  waiting_are : AreWaiting (pattern_of l.blocks) l.state (g.W.Word.bits l.waiting);
  colours_are : HasColours (pattern_of l.blocks) l.state l.colours;
}
