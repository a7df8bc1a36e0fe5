use Rattle.std.proofs.Common.{◌≡◌, ℕ, ◌<◌}
use Rattle.line_facts.specs.BitSets.{has}
use Rattle.line_settle.specs.LaidBlocks.{moved, covers}
use Rattle.line_settle.proofs.block_steps.lay.Given as goal

abbrev pub invariant-loop : goal.invariant-loop
invariant-loop g l = record {
  cells_are : (i : ℕ) → i < g.W.Word.width → has (g.W.Word.bits l.cells) i ≡ covers (g.W.Word.bits l.fn.starts) l.counter i;
  ends_are : (i : ℕ) → i < g.W.Word.width → has (g.W.Word.bits l.ends) i ≡ moved (g.W.Word.bits l.fn.starts) l.counter i;
}
