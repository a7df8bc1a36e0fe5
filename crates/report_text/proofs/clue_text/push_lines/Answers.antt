use Rattle.std.proofs.Common.{[], ◌+◌, ◌++◌, ◌∙◌, List, ap, arith, get_or, take}
use Rattle.clues.specs.declared.block.Block.{Block}
use Rattle.clues.specs.ClueBook.{clues_along}
use Rattle.report_text.specs.ClueText.{letter_of, numbered_clue, numbered_clues}
use Rattle.report_text.proofs.ShownLemmas.{none_pushed, pushed}
use Rattle.report_text.proofs.TextLemmas.{numbered_clues-more, numbered_clues-nil}
use Rattle.report_text.proofs.clue_text.push_lines.Goals as goal

pub loop-at-init : goal.loop-at-init
loop-at-init c =
    let letter = letter_of c.args.axis in
    none_pushed c.args.text.now.items (numbered_clues letter 1 []) (numbered_clues-nil letter 1)

pub loop-at-preserved : goal.loop-at-preserved
loop-at-preserved c =
    let letter = letter_of c.args.axis in
    let clues = clues_along c.args.axis c.args.book.now in
    let at = c.loop-at.at in
    let text = c.loop-at.text.items in
    let line =
    c.in_ok-push_line.ensures
    ∙ ap (λ (clue : List Block). text ++ numbered_clue letter (at + 1) clue) (c.blocks-in-loop-at.ensures.blocks ∙ c.clue.ensures.value) in
    pushed c.args.text.now.items text c.push_line.new.text.items (numbered_clues letter 1 (take at clues))
    (numbered_clue letter (at + 1) (get_or clues at [])) (numbered_clues letter 1 (take (at + 1) clues))
    c.loop-at.invariant line (numbered_clues-more letter clues at (omega arith))
