use Rattle.std.proofs.Common.{◌≡◌, ℕ, List, ap, ◌∙◌, refl, arith}
use Rattle.picture.specs.Rows.{without_line}
use Rattle.clues.specs.declared.places.Places.TheVariants.{Deleted}
use Rattle.edits.proofs.PartLemmas.{moved_document, moved_to}
use Rattle.edits.proofs.ShiftLemmas.{deleted_is}
use Rattle.edits.proofs.parts.deleted.Goals as goal

pub returns : goal.returns
returns c =
    let d = c.args.document.now in
    let line = c.args.line in
    let shift : List (List ℕ) → List (List ℕ) = without_line line.axis line.at in
    let now : c.delete_line.new.self ≡ shift d.picture = c.delete_line.ensures ∙ ap shift c.in_ok-picture.ensures in
    let h = c.height.ensures.value in
    let w = c.width.ensures.value in
    moved_to c.moved.result d.palette c.delete_line.new.self d.givens c.insert-back.result.moves _
    (λ new there. moved_document line.axis (Deleted line.at) shift (deleted_is line.axis line.at) c.height.result c.width.result d.picture c.delete_line.new.self d.givens new
    c.insert-back.result.moves d.palette d.palette c.requires.picture c.requires.place (omega (arith, c.requires.others)) refl now h w c.insert-back.ensures.moves (rw (h, w) there))
    c.moved.ensures.palette c.moved.ensures.picture c.moved.ensures.givens
