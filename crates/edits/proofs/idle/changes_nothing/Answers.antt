use Rattle.std.proofs.Common.{ap, sym, ◌∙◌, arith, ◌<◌, length}
use Rattle.std.proofs.lemmas.Bool.Decides.{nat_tests}
use Rattle.picture.specs.Rows.{lines_along}
use Rattle.edits.specs.Design.{design_of}
use Rattle.edits.specs.Fault.{same_design}
use Rattle.edits.proofs.IdleLemmas.{paint_idle, swap_idle, set_idle, pin_idle, unpin_idle}
use Rattle.edits.proofs.ApplyLemmas.{paints}
use Rattle.edits.proofs.RevertLemmas.{not_in}
use Rattle.edits.proofs.idle.changes_nothing.Goals as goal

pub returns-in-Paint : goal.returns-in-Paint
returns-in-Paint c =
    let d = design_of c.args.document.now in
    paint_idle d c.args.edit.now c.changes_cells.result c.know.ensures.design.is_picture c.changes_cells.ensures
    ∙ ap (λ x. same_design x d) (sym ((paints c.args.edit.now c.in-Paint.is).gives d))

pub returns-in-SwapLines : goal.returns-in-SwapLines
returns-in-SwapLines c = grind (arith, design_of, lines_along, nat_tests, swap_idle)

pub returns-in-SetColour : goal.returns-in-SetColour
returns-in-SetColour c =
    let coloured = rw c.in-SetColour.is at c.requires.coloured in
    let within : c.in-SetColour.colour < length c.args.document.now.palette.triples = grind (arith, nat_tests, coloured) in
    rw c.in-SetColour.is (set_idle (design_of c.args.document.now) c.in-SetColour.colour c.in-SetColour.rgb c.rgb.result c.eq.result within c.rgb.ensures.stands c.eq.ensures)

pub returns-in-Pin : goal.returns-in-Pin
returns-in-Pin c =
    let inside = not_in c.args.document.now.picture c.in-Pin.row c.in-Pin.col (rw c.in-Pin.is at c.requires.inside) in
    rw c.in-Pin.is (pin_idle (design_of c.args.document.now) c.in-Pin.row c.in-Pin.col c.is_given.result c.know.ensures.design inside.0 inside.1 c.is_given.ensures)

pub returns-in-Unpin : goal.returns-in-Unpin
returns-in-Unpin c =
    let inside = not_in c.args.document.now.picture c.in-Unpin.row c.in-Unpin.col (rw c.in-Unpin.is at c.requires.inside) in
    rw c.in-Unpin.is (unpin_idle (design_of c.args.document.now) c.in-Unpin.row c.in-Unpin.col c.is_given-in-Unpin.result c.know.ensures.design inside.0 inside.1 c.is_given-in-Unpin.ensures)
