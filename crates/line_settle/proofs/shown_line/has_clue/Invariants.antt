use Rattle.std.proofs.Common.{◌≡◌, ◌≢◌, ◌↔◌, ◌<◌, ◌≤◌, ◌++◌, drop, replicate}
use Rattle.clues.specs.Clue.{clue_of}
use Rattle.line_settle.specs.Shown.{lowest_colours}
use Rattle.line_settle.proofs.shown_line.has_clue.Given as goal

-- the line has the clue where the run that is open, and then the cells to come, give the blocks that are owed
abbrev pub invariant-loop-mask : goal.invariant-loop-mask
invariant-loop-mask l = record {
  decided : (clue_of (replicate l.run.len l.run.colour ++ lowest_colours (drop l.mask-index l.left)) ≡ l.owed) ↔ (clue_of (lowest_colours l.fn.left) ≡ l.fn.blocks);
  some : l.run.colour ≢ 0 → 0 < l.run.len;
  short : l.run.len ≤ l.mask-index;
}
