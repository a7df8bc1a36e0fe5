use Rattle.std.proofs.Common.{◌≡◌, ℕ, ◌<◌, true, get_or, map}
use Rattle.clues.specs.Clue.{block}
use Rattle.line_settle.specs.Patterns.{allows}
use Rattle.line_settle.specs.Positions.{HasMade}
use Rattle.line_settle.proofs.position_tables.mark_allowed.Given as goal

abbrev pub invariant-loop-block : goal.invariant-loop-block
invariant-loop-block g l = record {
  made_so_far : HasMade l.left l.made (map g.W.Word.bits l.allowed);
  background : allows l.made 0 ≡ true;
  each : (j : ℕ) → j < l.block-index → allows l.made (get_or l.blocks j (block 0 0)).colour ≡ true;
}
