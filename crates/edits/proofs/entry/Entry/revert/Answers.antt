use Rattle.std.proofs.Common.{◌≡◌, ℕ, rules, ap, sym, refl, subst, ◌∙◌, map, List, length}
use Rattle.picture.specs.Document.{AreColoured}
use Rattle.picture.specs.Rows.{line_inserted}
use Rattle.clues.specs.declared.places.Places.TheVariants.{Inserted}
use Rattle.edits.specs.Design.{Design, design, design_of}
use Rattle.edits.specs.Note.{Cell, Note, as_mark, cells_of_line, givens_of_line, note_of, with_cells}
use Rattle.edits.proofs.FaultLemmas.{lawful}
use Rattle.edits.proofs.ApplyLemmas.{paints}
use Rattle.edits.proofs.ShiftLemmas.{edited_below, inserted_is}
use Rattle.edits.proofs.StepLemmas.{step_coloured, gives_before, repaint_fits, reinsert_fits, redelete_fits, line_cells_fit, line_givens_fit, reswap_fits}
use Rattle.edits.proofs.entry.Entry.revert.Goals as goal

pub with_cells-requires-clause-cells : goal.with_cells-requires-clause-cells
with_cells-requires-clause-cells c =
    let p = paints c.args.self.now.edit c.in-Paint.is in
    rw (c.deref.ensures.value ∙ ap (λ (n : Note). n.cells) c.requires.1.kept ∙ p.kept c.requires.0.rows)
    (repaint_fits c.requires.0 (design_of c.args.document.now) c.requires.1.is_design c.args.self.now.edit p c.requires.1.gives)

pub with_cells-requires-clause-coloured : goal.with_cells-requires-clause-coloured
with_cells-requires-clause-coloured c =
    let p = paints c.args.self.now.edit c.in-Paint.is in
    let d = design_of c.args.document.now in
    let n = note_of c.args.self.now in
    rw c.deref.ensures.value (subst (λ (x : Design). AreColoured x.rows x.colours) (p.back d n.cells n.triple n.givens) (step_coloured c.requires.0 n d c.requires.1))

pub deleted-requires : goal.deleted-requires
deleted-requires c =
    let d = design_of c.args.document.now in
    let fits =
    reinsert_fits c.requires.0 d c.requires.1.is_design c.in-InsertLine.line (lawful c.requires.0 _ (rw c.in-InsertLine.is at c.requires.1.lawful)) (rw c.in-InsertLine.is at c.requires.1.gives) in
    record { picture = c.know.ensures.design.is_picture; place = fits.0; others = fits.1; coloured = rw c.in-InsertLine.is at (step_coloured c.requires.0 (note_of c.args.self.now) d c.requires.1) }

pub restored-requires : goal.restored-requires
restored-requires c =
    let d = design_of c.args.document.now in
    let n = note_of c.args.self.now in
    let b = c.requires.0 in
    let line = c.in-DeleteLine.line in
    let known = c.know.ensures.design in
    let is_lawful = lawful b _ (rw c.in-DeleteLine.is at c.requires.1.lawful) in
    let gives = rw c.in-DeleteLine.is at c.requires.1.gives in
    let fits = redelete_fits b d c.requires.1.is_design line is_lawful gives in
    let cells : n.cells ≡ cells_of_line b.rows line = rw c.in-DeleteLine.is at (ap (λ (m : Note). m.cells) c.requires.1.kept) in
    let givens : n.givens ≡ givens_of_line b.marks line = rw c.in-DeleteLine.is at (ap (λ (m : Note). m.givens) c.requires.1.kept) in
    record {
      picture = known.is_picture;
      place = fits.0;
      room = fits.1;
      blank = rw (inserted_is line.axis line.at d.rows)
          (edited_below line.axis (Inserted line.at) (length d.colours.triples) d.rows known.is_picture fits.0 known.is_palette.has_background known.is_coloured);
      cells = rw (c.deref-in-DeleteLine.ensures.value, cells) (line_cells_fit b d c.requires.1.is_design line is_lawful gives);
      givens = rw (c.deref-in-DeleteLine-2.ensures.value, givens) (line_givens_fit b d c.requires.1.is_design line is_lawful gives);
      coloured = rw (c.deref-in-DeleteLine.ensures.value) (rw c.in-DeleteLine.is at (step_coloured b n d c.requires.1));
    }

pub swapped-requires : goal.swapped-requires
swapped-requires c =
    let d = design_of c.args.document.now in
    let fits = reswap_fits c.requires.0 d c.requires.1.is_design c.in-SwapLines.axis c.in-SwapLines.first c.in-SwapLines.second (lawful c.requires.0 _ (rw c.in-SwapLines.is at c.requires.1.lawful))
    (rw c.in-SwapLines.is at c.requires.1.gives) in
    record { picture = c.know.ensures.design.is_picture; first_in = fits.0; second_in = fits.1; coloured = rw c.in-SwapLines.is at (step_coloured c.requires.0 (note_of c.args.self.now) d c.requires.1) }

pub returns-in-Paint : goal.returns-in-Paint
returns-in-Paint c =
    let d = design_of c.args.document.now in
    let n = note_of c.args.self.now in
    let p = paints c.args.self.now.edit c.in-Paint.is in
    gives_before c.with_cells.result (design d.colours (with_cells d.rows c.deref.result.now) d.marks) d n
    (p.back d n.cells n.triple n.givens ∙ ap (λ (cells : List Cell). design d.colours (with_cells d.rows cells) d.marks) (sym c.deref.ensures.value)) c.with_cells.ensures

pub returns-in-InsertLine : goal.returns-in-InsertLine
returns-in-InsertLine c = gives_before c.deleted.result _ _ (note_of c.args.self.now) (rw c.in-InsertLine.is refl) c.deleted.ensures

pub returns-in-SwapLines : goal.returns-in-SwapLines
returns-in-SwapLines c = gives_before c.swapped.result _ _ (note_of c.args.self.now) (rw c.in-SwapLines.is refl) c.swapped.ensures

pub returns-in-Some : goal.returns-in-Some
returns-in-Some c = gives_before c.recoloured.result _ _ (note_of c.args.self.now) (rw (c.in-SetColour.is, c.in-Some.is) refl) c.recoloured.ensures

pub returns-in-None : goal.returns-in-None
returns-in-None c =
    let d = design_of c.args.document.now in
    gives_before c.copy.result d d (note_of c.args.self.now) (rw (c.in-SetColour.is, c.in-None.is) refl) (search rules)

pub returns-in-Pin : goal.returns-in-Pin
returns-in-Pin c = gives_before c.unpinned.result _ _ (note_of c.args.self.now) (rw c.in-Pin.is refl) c.unpinned.ensures

pub returns-in-Unpin : goal.returns-in-Unpin
returns-in-Unpin c = gives_before c.pinned.result _ _ (note_of c.args.self.now) (rw c.in-Unpin.is refl) c.pinned.ensures

pub returns-in-DeleteLine : goal.returns-in-DeleteLine
returns-in-DeleteLine c =
    let d = design_of c.args.document.now in
    let line = c.in-DeleteLine.line in
    let givens_put : List (ℕ × ℕ) → List Cell
    → Design = λ givens cells. design d.colours (with_cells (line_inserted d.rows line) cells) (with_cells (line_inserted d.marks line) (map as_mark givens)) in
    gives_before c.restored.result (givens_put c.deref-in-DeleteLine-2.result.now c.deref-in-DeleteLine.result.now) d (note_of c.args.self.now)
    (rw (c.in-DeleteLine.is, c.deref-in-DeleteLine.ensures.value, c.deref-in-DeleteLine-2.ensures.value) refl) c.restored.ensures
