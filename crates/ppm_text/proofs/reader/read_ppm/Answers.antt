use Rattle.std.proofs.Common.{◌≡◌, ◌*◌, ◌<◌, length, ◌∙◌, arith, rules, refl}
use Rattle.ppm_text.proofs.Cells.{all_read, coloured_read}
use Rattle.ppm_text.proofs.reader.read_ppm.Goals as goal

pub from_cells-requires : goal.from_cells-requires
from_cells-requires c =
    let high = c.in_ok-height.ensures.within in
    let wide = c.in_ok-width.ensures.within in
    let size : c.from.result * c.from-2.result ≡ c.in_ok-height.height * c.in_ok-width.width = rw (c.from.ensures, c.from-2.ensures) refl in
    let count = all_read _ _ _ _ _ _ _ c.in_ok-cells.ensures.read ∙ size in
    let some : 0 < length c.in_ok-palette.palette.triples = search rules in
    record {
      has_row = high.0;
      rows_fit = high.1;
      has_column = wide.0;
      columns_fit = wide.1;
      count = count;
      colours = λ k. omega (arith, coloured_read _ _ _ _ _ _ _ c.in_ok-cells.ensures.read some k);
    }
