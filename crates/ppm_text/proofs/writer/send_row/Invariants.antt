use Rattle.std.proofs.Common.{◌≡◌, length, take}
use Rattle.std.specs.Io.KnownBytes.{Appends}
use Rattle.std.specs.List.{flat_map}
use Rattle.picture.specs.Palette.{triple_at}
use Rattle.picture.specs.Rows.{row_at}
use Rattle.ppm_text.specs.Text.{triple_text}
use Rattle.ppm_text.proofs.writer.send_row.Given as goal

abbrev pub invariant-loop-col : goal.invariant-loop-col
invariant-loop-col g l = record {
  wide : l.col-end ≡ length (row_at l.document.picture l.row);
  appended : Appends (g.W.Write.contents l.fn.writer) (g.W.Write.contents l.writer)
      (flat_map (λ cell. triple_text (triple_at l.document.palette.triples cell)) (take l.col (row_at l.document.picture l.row)));
}
