use Rattle.std.proofs.Common.{◌≡◌, ℕ}
use Rattle.line_facts.specs.BitSets.{has}
use Rattle.line_settle.specs.LaidBlocks.{lays}
use Rattle.line_settle.proofs.block_steps.starts_before.Given as goal

abbrev pub invariant-loop : goal.invariant-loop
invariant-loop g l = record {
  starts_are : (i : ℕ) → has (g.W.Word.bits l.starts) i ≡ lays (g.W.Word.bits l.cells) (g.W.Word.bits l.fn.ends) l.counter i;
}
