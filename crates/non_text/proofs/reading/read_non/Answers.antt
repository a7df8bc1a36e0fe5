use Rattle.std.proofs.Common.{sym, ◌∙◌, arith, codes}
use Rattle.non_text.specs.Lines.{lines_of}
use Rattle.non_text.proofs.SectionLemmas.{clues_count}
use Rattle.non_text.proofs.PuzzleLemmas.{size_limits}
use Rattle.non_text.proofs.reading.read_non.Goals as goal

pub from_parts-clues-requires : goal.from_parts-clues-requires
from_parts-clues-requires c =
    let lines = lines_of c.args.bytes.now in
    let width = size_limits (codes "width") lines c.in_ok-width.width (sym c.size_behind.ensures ∙ c.in_ok-width.ensures.ok_part) in
    let height = size_limits (codes "height") lines c.in_ok-height.height (sym c.size_behind-2.ensures ∙ c.in_ok-height.ensures.ok_part) in
    let rows = clues_count (codes "rows") c.in_ok-height.height c.in_ok-width.width lines c.in_ok-rows.rows.items c.in_ok-rows.ensures in
    let columns = clues_count (codes "columns") c.in_ok-width.width c.in_ok-height.height lines c.in_ok-columns.columns.items c.in_ok-columns.ensures in
    record {
      has_row = omega (arith, rows, height.0);
      rows_fit = omega (arith, rows, height.1);
      has_column = omega (arith, columns, width.0);
      columns_fit = omega (arith, columns, width.1);
    }
