use Rattle.std.proofs.Common.{map}
use Rattle.line_settle.specs.Patterns.{pattern_of}
use Rattle.line_settle.specs.LaidBlocks.{state_behind}
use Rattle.line_settle.proofs.PassLemmas.{Behind}
use Rattle.line_settle.proofs.position_tables.see_blocks.Given as goal

abbrev pub invariant-loop-j : goal.invariant-loop-j
invariant-loop-j g l = record {
  behind : Behind (pattern_of l.blocks) l.left (state_behind 0 l.blocks l.j) (g.W.Word.bits l.from) (map g.W.Word.bits l.seen);
}
