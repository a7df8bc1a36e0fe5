use Rattle.std.proofs.Common.{◌≡◌, ℕ, ◌^◌, length, map}
use Rattle.line_facts.specs.BitSets.{has}
use Rattle.line_settle.specs.Positions.{spans}
use Rattle.line_settle.proofs.SpanLemmas.{AreFirst}
use Rattle.line_settle.proofs.positions.write_spans.Given as goal

abbrev pub invariant-loop-k : goal.invariant-loop-k
invariant-loop-k g l = record {
  step_is : l.step ≡ 2 ^ l.k;
  seven : length l.spans ≡ 7;
  here : (j : ℕ) → has (g.W.Word.bits l.span) j ≡ spans (has (g.W.Word.bits l.fn.cells)) l.step j;
  before : AreFirst (g.W.Word.bits l.fn.cells) (map g.W.Word.bits l.spans) l.k;
}
