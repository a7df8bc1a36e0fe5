use Rattle.std.proofs.Common.{◌≡◌, ◌+◌, ◌≤◌, length, drop}
use Rattle.line_settle.specs.Patterns.{spelled_after, pattern_of}
use Rattle.line_settle.proofs.mask_line.has_room.Given as goal

abbrev pub invariant-loop-block : goal.invariant-loop-block
invariant-loop-block l = record {
  within : l.needed ≤ l.cells;
  so_far : l.needed + length (spelled_after l.last (drop l.block-index l.blocks)) + 1 ≡ length (pattern_of l.blocks);
}
