use Rattle.std.proofs.Common.{◌<◌, length, refl, sym, ◌∙◌, arith}
use Rattle.std.proofs.lemmas.Bool.{false≢true}
use Rattle.clues.proofs.BookLaws.{clues_along-clues_of}
use Rattle.clues.proofs.LineClues.{all_first_clues, first_clues-take, first_clues-differ}
use Rattle.clues.proofs.clue_book.are_clues.Goals as goal

-- one clue is not that of its line
pub returns-then-not-is_clue_of : goal.returns-then-not-is_clue_of
returns-then-not-is_clue_of c =
    let decided = rw c.line.ensures.value at c.is_clue_of.ensures in
    let read = rw c.from-in-loop-at.ensures at c.index-clues-from.is in (
      λ e. absurd (false≢true e),
      λ e.
          absurd
          (first_clues-differ c.args.axis c.args.picture.now c.args.clues.now _ c.loop-at.at c.index-clues-from.result
          (omega arith) read (λ same. false≢true (sym c.if-not-is_clue_of.true ∙ decided.1 same))
          (sym (clues_along-clues_of c.args.axis c.args.picture.now) ∙ e)),
    )

-- one more clue is that of its line
pub loop-at-preserved : goal.loop-at-preserved
loop-at-preserved c =
    let decided = rw c.line.ensures.value at c.is_clue_of.ensures in
    let read = rw c.from-in-loop-at.ensures at c.index-clues-from.is in
    let within : c.loop-at.at < length c.args.clues.now = omega arith in
    first_clues-take c.args.axis c.args.picture.now c.args.clues.now c.loop-at.at c.index-clues-from.result within read (decided.0 c.if-not-is_clue_of.false) c.loop-at.invariant

-- all clues are those of their lines
pub returns : goal.returns
returns c = (
  λ e. all_first_clues c.args.axis c.args.picture.now c.args.clues.now c.loop-at.at (omega arith) (omega arith) c.loop-at.invariant,
  λ e. refl,
)
