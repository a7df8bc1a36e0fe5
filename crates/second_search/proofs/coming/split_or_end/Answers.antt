use Rattle.picture.specs.Rows.{cell_at}
use Rattle.second_search.proofs.coming.split_or_end.Goals as goal

pub first_unsettled-requires-clause-others : goal.first_unsettled-requires-clause-others
first_unsettled-requires-clause-others c = λ row col out h l. (cell_at c.args.known.now row col, c.requires.others row col out h l)

pub shown_on-requires-clause-same_shape : goal.shown_on-requires-clause-same_shape
shown_on-requires-clause-same_shape c = rw c.in_ok-copy-in-None.ensures c.requires.same_shape

pub shown_on-requires-clause-others : goal.shown_on-requires-clause-others
shown_on-requires-clause-others c = rw c.in_ok-copy-in-None.ensures c.requires.others
