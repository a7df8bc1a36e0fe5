use Rattle.std.proofs.lemmas.Bool.Decides.{not_from_Decides}
use Rattle.line_settle.proofs.ShownLemmas.{blank_narrows, narrows_not_blank}
use Rattle.line_settle.proofs.shown_line.narrow_without_blocks.Goals as goal

pub returns-then-allow_background : goal.returns-then-allow_background
returns-then-allow_background c = rw (c.fill.ensures.after (λ y h. h), ← c.requires) (blank_narrows _ (c.allow_background.ensures.0 c.if-allow_background.true))

pub returns-else-allow_background : goal.returns-else-allow_background
returns-else-allow_background c =
    rw (c.fill-else-allow_background.ensures.after (λ y h. h), ← c.requires) (narrows_not_blank _ (not_from_Decides c.allow_background.result c.allow_background.ensures c.if-allow_background.false))
