use Rattle.std.proofs.Common.{◌≡◌, ℕ, ◌^◌, map}
use Rattle.line_facts.specs.BitSets.{has}
use Rattle.line_settle.specs.Positions.{AreSpans}
use Rattle.line_settle.proofs.PositionLemmas.{fills}
use Rattle.line_settle.proofs.positions.fill_down.Given as goal

abbrev pub invariant-loop-k : goal.invariant-loop-k
invariant-loop-k g l = record {
  step_is : l.step ≡ 2 ^ l.k;
  reaching : (cells : ℕ) → AreSpans g.W.Word.width cells (map g.W.Word.bits l.spans) → (j : ℕ) → has (g.W.Word.bits l.all) j ≡ fills (has (g.W.Word.bits l.fn.set)) (has cells) l.step j;
}
