use Rattle.std.proofs.Common.{◌≡◌, length, take}
use Rattle.std.specs.Io.KnownBytes.{Appends}
use Rattle.ppm_text.specs.Text.{rows_text}
use Rattle.ppm_text.proofs.writer.send_rows.Given as goal

abbrev pub invariant-loop-row : goal.invariant-loop-row
invariant-loop-row g l = record {
  tall : l.row-end ≡ length l.document.picture;
  appended : Appends (g.W.Write.contents l.fn.writer) (g.W.Write.contents l.writer) (rows_text l.document.palette.triples (take l.row l.document.picture));
}
