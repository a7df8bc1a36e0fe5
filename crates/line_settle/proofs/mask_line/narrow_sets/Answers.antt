use Rattle.std.proofs.Common.{◌≡◌, ◌<◌, true, sym, ◌∙◌, arith, map}
use Rattle.std.proofs.lemmas.List.{take-map}
use Rattle.std.proofs.lemmas.List.Elements.{All-get_or, All-from_get_or}
use Rattle.clues.specs.declared.block.Block.{Block}
use Rattle.clues.specs.Clue.{block}
use Rattle.line_settle.specs.Patterns.{allows}
use Rattle.line_settle.proofs.NarrowLemmas.{narrows_some, narrows_stuck, seen_in_full}
use Rattle.line_settle.proofs.mask_line.narrow_sets.Goals as goal

pub returns-then-not-mark_back : goal.returns-then-not-mark_back
returns-then-not-mark_back g c =
    rw (c.fill.ensures.after (λ y h. h), ← c.requires.same_length) (narrows_stuck _ _ c.requires.blocks_of_clue (sym c.mark_back.ensures.fits ∙ c.if-not-mark_back.true))

pub returns : goal.returns
returns g c =
    let n = c.colours_of-colours.result in
    let bits = g.W.Word.bits in
    let seen = c.see_blocks.new.seen in
    let some : 0 < n = c.colours_of-colours.ensures.each 0 c.mark_allowed-made.ensures.background in
    let P : Block → Type 0 = λ b. allows c.mark_allowed-made.result b.colour ≡ true in
    let Q : Block → Type 0 = λ b. b.colour < n in
    let below = All-from_get_or Q c.args.blocks.now (block 0 0) (λ j l. c.colours_of-colours.ensures.each _ (All-get_or P c.args.blocks.now j (block 0 0) l c.mark_allowed-made.ensures.each)) in
    narrows_some c.args.blocks.now c.args.left.now c.write_colours.new.out c.requires.blocks_of_clue (omega (arith, c.requires.same_length)) (sym c.mark_back.ensures.fits ∙ c.if-not-mark_back.false)
    (λ i k h.
    c.write_colours.ensures i k (omega (arith, c.requires.same_length))
    ∙ (rw (c.from.ensures, ← take-map bits n seen) (seen_in_full c.args.blocks.now c.args.left.now (map bits seen) n some below c.see_blocks.ensures i k h)))
