use Rattle.std.proofs.Common.{◌≡◌, ◌≤◌, ◌++◌, length, take, drop}
use Rattle.line_settle.specs.Patterns.{spelled_after, pattern_of}
use Rattle.line_settle.proofs.pattern.spell.Given as goal

abbrev pub invariant-loop-block : goal.invariant-loop-block
invariant-loop-block l = record {
  within : l.end ≤ length l.buffer;
  so_far : take l.end l.buffer ++ spelled_after l.last (drop l.block-index l.blocks) ≡ pattern_of l.blocks;
}
