use Rattle.std.proofs.Common.{◌≡◌, ℕ, ◌+◌, ◌*◌}
use Rattle.line_facts.specs.BitSets.{has}
use Rattle.line_settle.specs.Positions.{IsColoured}
use Rattle.line_settle.proofs.positions.colour_line.Given as goal

abbrev pub invariant-loop-chunk : goal.invariant-loop-chunk
invariant-loop-chunk g l = record {
  left : (j : ℕ) → has (g.W.Word.bits l.rest) j ≡ has (g.W.Word.bits l.set) (8 * l.chunk + j);
  coloured : IsColoured (g.W.Word.bits l.set) l.colour l.keep 0 (8 * l.chunk) l.initial.out l.out;
}
