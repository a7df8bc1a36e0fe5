use Rattle.std.proofs.Common.{◌≡◌, ◌≢◌, ◌+◌, ◌<◌, ◌≤◌, ◌++◌, length, replicate, take}
use Rattle.picture.specs.declared.picture.TheConstants.{MAX_SIDE}
use Rattle.clues.specs.Clue.{clue_of}
use Rattle.clues.proofs.counting.clue_of.Given as goal

-- the run that is open, and then the cells to come, give the blocks that follow those so far
abbrev pub invariant-loop-colour : goal.invariant-loop-colour
invariant-loop-colour l = record {
  counted : take l.count l.blocks ++ clue_of (replicate l.run.len l.run.colour ++ l.colour-iterator) ≡ clue_of l.fn.line;
  some : l.run.colour ≢ 0 → 0 < l.run.len;
  short : l.count + l.run.len + length l.colour-iterator ≤ MAX_SIDE;
}
