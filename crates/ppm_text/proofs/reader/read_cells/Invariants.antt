use Rattle.std.proofs.Common.{◌≡◌, ◌-◌}
use Rattle.ppm_text.specs.Known.{AreKnown}
use Rattle.ppm_text.specs.Ppm.{numbers_at}
use Rattle.ppm_text.proofs.Cells.{with_front}
use Rattle.ppm_text.proofs.reader.read_cells.Given as goal

abbrev pub invariant-loop : goal.invariant-loop
invariant-loop l = record {
  read : with_front l.cells.items (numbers_at l.scanner.end (l.count - l.counter) l.palette l.scanner.tokens) ≡ numbers_at l.fn.scanner.end l.count l.fn.palette l.fn.scanner.tokens;
  known : AreKnown l.palette.triples l.known;
  end : l.scanner.end ≡ l.fn.scanner.end;
}
