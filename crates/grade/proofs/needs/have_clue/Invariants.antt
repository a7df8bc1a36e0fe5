use Rattle.std.proofs.Common.{◌≡◌, ◌≢◌, ◌↔◌, ◌<◌, ◌≤◌, ◌++◌, drop, replicate}
use Rattle.clues.specs.Clue.{clue_of}
use Rattle.grade.specs.Needs.{known_colours}
use Rattle.grade.proofs.needs.have_clue.Given as goal

-- the line has the clue where the run that is open, and then the cells to come, give the blocks that are owed
abbrev pub invariant-loop-mask : goal.invariant-loop-mask
invariant-loop-mask l = record {
  decided : (clue_of (replicate l.run.len l.run.colour ++ known_colours (drop l.mask-index l.masks)) ≡ l.owed) ↔ (clue_of (known_colours l.fn.masks) ≡ l.fn.blocks);
  some : l.run.colour ≢ 0 → 0 < l.run.len;
  short : l.run.len ≤ l.mask-index;
}
