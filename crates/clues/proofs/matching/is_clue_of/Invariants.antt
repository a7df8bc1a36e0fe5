use Rattle.std.proofs.Common.{◌≡◌, ◌≢◌, ◌↔◌, ◌+◌, ◌<◌, ◌≤◌, ◌++◌, length, replicate}
use Rattle.picture.specs.declared.picture.TheConstants.{MAX_SIDE}
use Rattle.clues.specs.Clue.{clue_of}
use Rattle.clues.proofs.matching.is_clue_of.Given as goal

-- the line has the clue where the run that is open, and then the cells to come, give the blocks that are left
abbrev pub invariant-loop-colour : goal.invariant-loop-colour
invariant-loop-colour l = record {
  decided : (clue_of (replicate l.run.len l.run.colour ++ l.colour-iterator) ≡ l.left) ↔ (clue_of l.fn.line ≡ l.fn.clue);
  some : l.run.colour ≢ 0 → 0 < l.run.len;
  short : l.run.len + length l.colour-iterator ≤ MAX_SIDE;
}
