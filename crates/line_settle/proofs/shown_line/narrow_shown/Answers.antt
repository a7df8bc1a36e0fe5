use Rattle.std.proofs.lemmas.Bool.Decides.{not_from_Decides}
use Rattle.line_settle.proofs.ShownLemmas.{shown_stays, narrows_another}
use Rattle.line_settle.proofs.shown_line.narrow_shown.Goals as goal

pub returns-then-has_clue : goal.returns-then-has_clue
returns-then-has_clue c = rw c.copy_from_slice.ensures.after (shown_stays _ _ c.requires.shown (c.has_clue.ensures.0 c.if-has_clue.true))

pub returns-else-has_clue : goal.returns-else-has_clue
returns-else-has_clue c =
    rw (c.fill.ensures.after (λ y h. h), ← c.requires.same_length) (narrows_another _ _ c.requires.shown (not_from_Decides c.has_clue.result c.has_clue.ensures c.if-has_clue.false))
