use Rattle.std.proofs.Common.{◌∙◌, ap, arith, ℕ, [], ◌∷◌, ◌++◌}
use Rattle.edits.proofs.KeptLemmas.{one_cell_more, all_cells}
use Rattle.edits.proofs.kept.cells_of_line.Goals as goal

pub loop-position-preserved : goal.loop-position-preserved
loop-position-preserved c =
    let p = c.place_on-row.result in
    c.in_ok-push.ensures.items
    ∙ (ap (λ (x : ℕ). c.loop-position.cells.items ++ (p.0, p.1, x) ∷ []) c.cell.ensures.value
    ∙ one_cell_more c.args.picture.now c.args.line c.loop-position.position c.loop-position.cells.items p c.loop-position.invariant c.place_on-row.ensures)

pub returns : goal.returns
returns c = all_cells c.args.picture.now c.args.line c.loop-position.position c.loop-position.cells.items (omega arith) c.loop-position.invariant
