use Rattle.std.proofs.Common.{◌≡◌, ap}
use Rattle.std.specs.List.{All}
use Rattle.picture.specs.Rows.{line_inserted}
use Rattle.edits.specs.Design.{Design, design, design_of}
use Rattle.edits.specs.Note.{IsCellIn}
use Rattle.edits.proofs.PartLemmas.{changed_inside, restored_document}
use Rattle.edits.proofs.parts.restored.Goals as goal

pub invariant_of-result : goal.invariant_of-result
invariant_of-result c =
    let blank = c.in_ok-blank.blank in
    let rows : blank.picture ≡ line_inserted c.args.document.now.picture c.args.line = ap (λ (x : Design). x.rows) c.in_ok-blank.ensures in
    let palette : blank.palette ≡ c.args.document.now.palette = ap (λ (x : Design). x.colours) c.in_ok-blank.ensures in
    let fits : All (IsCellIn blank.picture) c.args.cells.now = rw rows c.requires.cells in
    record {
      coloured = rw (c.put_cells.ensures, rows, palette) c.requires.coloured;
      inside = changed_inside blank.picture c.put_cells.new.picture c.args.cells.now c.put_givens.new.givens c.know.ensures.design.is_picture fits c.put_cells.ensures c.put_givens.ensures.inside;
    }

pub returns : goal.returns
returns c =
    let blank = c.in_ok-blank.blank in
    let rows : blank.picture ≡ line_inserted c.args.document.now.picture c.args.line = ap (λ (x : Design). x.rows) c.in_ok-blank.ensures in
    let fits : All (IsCellIn blank.picture) c.args.cells.now = rw rows c.requires.cells in
    restored_document blank.picture c.put_cells.new.picture c.args.cells.now c.args.givens.now blank.givens c.put_givens.new.givens blank.palette
    (design c.args.document.now.palette (line_inserted c.args.document.now.picture c.args.line) (line_inserted (design_of c.args.document.now).marks c.args.line))
    c.know.ensures.design.is_picture fits c.in_ok-blank.ensures c.put_cells.ensures c.put_givens.ensures.marks
