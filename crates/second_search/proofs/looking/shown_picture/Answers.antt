use Rattle.second_search.specs.Through.{across}
use Rattle.second_search.proofs.looking.shown_picture.Goals as goal

pub shown_on-requires-clause-others : goal.shown_on-requires-clause-others
shown_on-requires-clause-others c = λ row col out h l. absurd (out ((c.all_lines.ensures.lines (across row)).1 h))
