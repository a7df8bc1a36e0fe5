use Rattle.std.proofs.Common.{ℕ, ◌<◌, ◌≤◌, length, map, get_or}
use Rattle.line_settle.specs.Patterns.{pattern_of}
use Rattle.line_settle.specs.LaidBlocks.{IsBack, IsStart, state_behind, state_before}
use Rattle.line_settle.proofs.position_tables.mark_back.Given as goal

abbrev pub invariant-loop-j : goal.invariant-loop-j
invariant-loop-j g l = record {
  later_is : IsBack (pattern_of l.blocks) l.left (state_behind 0 l.blocks l.j) (g.W.Word.bits l.later);
  starts : (r : ℕ) → l.j ≤ r → r < length l.blocks → IsStart (pattern_of l.blocks) l.left (state_before l.blocks r) (get_or (map g.W.Word.bits l.starting) r 0);
  waits : (r : ℕ) → l.j ≤ r → r ≤ length l.blocks → IsBack (pattern_of l.blocks) l.left (state_before l.blocks r) (get_or (map g.W.Word.bits l.waiting) r 0);
}
