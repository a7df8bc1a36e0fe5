use Rattle.std.proofs.Common.{◌≡◌, ℕ, List, ap, ◌∙◌}
use Rattle.edits.specs.Note.{with_cells}
use Rattle.edits.proofs.PartLemmas.{changed_inside, changed_document}
use Rattle.edits.proofs.parts.with_cells.Goals as goal

pub invariant_of-after : goal.invariant_of-after
invariant_of-after c =
    let d = c.args.document.now in
    let e = c.in_ok-after.ensures in
    let same : c.put_cells.new.picture ≡ with_cells d.picture c.args.cells.now = c.put_cells.ensures ∙ ap (λ (r : List (List ℕ)). with_cells r c.args.cells.now) e.picture in
    record {
      coloured = rw (same, e.palette) c.requires.coloured;
      inside = rw e.givens (changed_inside d.picture c.put_cells.new.picture c.args.cells.now d.givens c.requires.picture c.requires.cells same d.inside);
    }

pub returns : goal.returns
returns c =
    let d = c.args.document.now in
    let e = c.in_ok-after.ensures in
    rw e.givens (changed_document d.picture c.put_cells.new.picture c.args.cells.now d.givens d.palette c.in_ok-after.after.palette c.requires.picture c.requires.cells e.palette
    (c.put_cells.ensures ∙ ap (λ (r : List (List ℕ)). with_cells r c.args.cells.now) e.picture))
