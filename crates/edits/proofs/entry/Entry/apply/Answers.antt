use Rattle.std.proofs.Common.{◌≡◌, ap, subst, ◌∙◌, map, List, IfOk}
use Rattle.edits.specs.Design.{Design, design, design_of}
use Rattle.edits.specs.Note.{Cell, Note, repainted, with_cells}
use Rattle.edits.proofs.CellLemmas.{paints_cells}
use Rattle.edits.proofs.FaultLemmas.{lawful}
use Rattle.edits.proofs.ApplyLemmas.{paints, painted_coloured, cells_fit, painted_gives, insert_fits, delete_fits, swap_fits}
use Rattle.edits.proofs.entry.Entry.apply.Goals as goal

pub painted-requires-clause-cells : goal.painted-requires-clause-cells
painted-requires-clause-cells c =
    let d = design_of c.args.document.now in
    let p = paints c.args.self.now.edit c.in-Paint.is in
    rw (c.deref.ensures.value ∙ ap (λ (n : Note). n.cells) c.requires.kept ∙ p.kept c.args.document.now.picture)
    (cells_fit d c.args.self.now.edit c.requires.is_design (lawful d c.args.self.now.edit c.requires.lawful) p)

pub painted-requires-clause-coloured : goal.painted-requires-clause-coloured
painted-requires-clause-coloured c =
    let d = design_of c.args.document.now in
    let p = paints c.args.self.now.edit c.in-Paint.is in
    rw (
      c.deref.ensures.value ∙ ap (λ (n : Note). n.cells) c.requires.kept ∙ p.kept c.args.document.now.picture,
      paints_cells c.args.self.now.edit c.args.document.now.picture c.requires.is_design.is_picture,
    )
    (painted_coloured d c.args.self.now.edit c.requires.is_design (lawful d c.args.self.now.edit c.requires.lawful) p)

pub inserted-requires : goal.inserted-requires
inserted-requires c =
    let d = design_of c.args.document.now in
    let fits = insert_fits d c.in-InsertLine.line c.requires.is_design (lawful d _ (rw c.in-InsertLine.is at c.requires.lawful)) in
    record { picture = c.requires.is_design.is_picture; place = fits.0; room = fits.1; coloured = fits.2 }

pub deleted-requires : goal.deleted-requires
deleted-requires c =
    let d = design_of c.args.document.now in
    let fits = delete_fits d c.in-DeleteLine.line c.requires.is_design (lawful d _ (rw c.in-DeleteLine.is at c.requires.lawful)) in
    record { picture = c.requires.is_design.is_picture; place = fits.0; others = fits.1; coloured = fits.2 }

pub swapped-requires : goal.swapped-requires
swapped-requires c =
    let d = design_of c.args.document.now in
    let fits = swap_fits d c.in-SwapLines.axis c.in-SwapLines.first c.in-SwapLines.second c.requires.is_design (lawful d _ (rw c.in-SwapLines.is at c.requires.lawful)) in
    record { picture = c.requires.is_design.is_picture; first_in = fits.0; second_in = fits.1; coloured = fits.2 }

pub returns-in-Paint : goal.returns-in-Paint
returns-in-Paint c =
    let d = design_of c.args.document.now in
    let e = c.args.self.now.edit in
    let p = paints e c.in-Paint.is in
    let same = c.deref.ensures.value ∙ ap (λ (n : Note). n.cells) c.requires.kept ∙ p.kept c.args.document.now.picture in
    let gives = ap (λ (cells : List Cell). design d.colours (with_cells d.rows (map (repainted e) cells)) d.marks) same ∙ painted_gives d e c.requires.is_design (lawful d e c.requires.lawful) p in
    subst (λ (x : Design). IfOk c.painted.result (λ y. design_of y ≡ x)) gives c.painted.ensures
