use Rattle.std.proofs.Common.{◌≡◌, ℕ, List, ap, ◌∙◌, refl, arith}
use Rattle.picture.specs.Rows.{with_line}
use Rattle.clues.specs.declared.places.Places.TheVariants.{Inserted}
use Rattle.edits.proofs.PartLemmas.{moved_document, moved_to}
use Rattle.edits.proofs.ShiftLemmas.{inserted_is}
use Rattle.edits.proofs.parts.inserted.Goals as goal

pub returns : goal.returns
returns c =
    let d = c.args.document.now in
    let line = c.args.line in
    let shift : List (List ℕ) → List (List ℕ) = with_line line.axis line.at in
    let now : c.insert_line.new.self ≡ shift d.picture = c.in_ok-insert_line.ensures.ok ∙ ap shift c.in_ok-picture.ensures in
    let h = c.height.ensures.value in
    let w = c.width.ensures.value in
    moved_to c.moved.result d.palette c.insert_line.new.self d.givens c.delete-back.result.moves _
    (λ new there. moved_document line.axis (Inserted line.at) shift (inserted_is line.axis line.at) c.height.result c.width.result d.picture c.insert_line.new.self d.givens new
    c.delete-back.result.moves d.palette d.palette c.requires.picture c.requires.place (omega arith) refl now h w c.delete-back.ensures.moves (rw (h, w) there))
    c.moved.ensures.palette c.moved.ensures.picture c.moved.ensures.givens
