use Rattle.std.proofs.Common.{◌≡◌, ℕ, List, ap, ◌∙◌, refl, arith}
use Rattle.picture.specs.Rows.{lines_swapped}
use Rattle.clues.specs.declared.places.Places.TheVariants.{Swapped}
use Rattle.edits.proofs.PartLemmas.{moved_document, moved_to}
use Rattle.edits.proofs.ShiftLemmas.{swapped_is}
use Rattle.edits.proofs.parts.swapped.Goals as goal

pub returns : goal.returns
returns c =
    let d = c.args.document.now in
    let shift : List (List ℕ) → List (List ℕ) = lines_swapped c.args.axis c.args.first c.args.second in
    let now : c.swap_lines.new.self ≡ shift d.picture = c.swap_lines.ensures ∙ ap shift c.in_ok-picture.ensures in
    let h = c.height.ensures.value in
    let w = c.width.ensures.value in
    moved_to c.moved.result d.palette c.swap_lines.new.self d.givens c.swap-back.result.moves _
    (λ new there. moved_document c.args.axis (Swapped c.args.first c.args.second) shift
    (swapped_is c.args.axis c.args.first c.args.second) c.height.result c.width.result d.picture c.swap_lines.new.self d.givens new c.swap-back.result.moves d.palette d.palette c.requires.picture
    (c.requires.first_in, c.requires.second_in) (omega (arith, c.requires.first_in)) refl now h w c.swap-back.ensures.moves (rw (h, w) there))
    c.moved.ensures.palette c.moved.ensures.picture c.moved.ensures.givens
