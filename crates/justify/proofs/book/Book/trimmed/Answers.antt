use Rattle.justify.proofs.BookLemmas.{step_read}
use Rattle.justify.proofs.ReasonLemmas.{argues_by, forced_there}
use Rattle.justify.proofs.book.Book.trimmed.Goals as goal

pub needed-requires-clause-inside : goal.needed-requires-clause-inside
needed-requires-clause-inside c =
    let s = step_read c.args.self.now _ c.in-Some.place c.index-steps-place.result c.steps-steps.ensures.account c.steps-steps.ensures.value
    (rw c.steps-steps.ensures.value c.in-Some.ensures.0) c.index-steps-place.is in
    let len = rw c.base.ensures.value at c.line_len-cells.ensures.len in
    rw len s.follows.premises_inside

pub needed-requires-clause-forced : goal.needed-requires-clause-forced
needed-requires-clause-forced c =
    let s = step_read c.args.self.now _ c.in-Some.place c.index-steps-place.result c.steps-steps.ensures.account c.steps-steps.ensures.value
    (rw c.steps-steps.ensures.value c.in-Some.ensures.0) c.index-steps-place.is in
    let len = rw c.base.ensures.value at c.line_len-cells.ensures.len in
    rw (len, c.clue-clue.ensures.value) (forced_there c.args.clues.now c.args.self.now c.args.row c.args.col c.args.colour c.in-Some.place c.place_along-at.result c.index-steps-place.result
    c.steps-steps.ensures.account s.within s.same c.in-Some.ensures.1 c.place_along-at.ensures c.requires.derivation)

pub returns : goal.returns
returns c =
    let s = step_read c.args.self.now _ c.in-Some.place c.index-steps-place.result c.steps-steps.ensures.account c.steps-steps.ensures.value
    (rw c.steps-steps.ensures.value c.in-Some.ensures.0) c.index-steps-place.is in
    let len = rw c.base.ensures.value at c.line_len-cells.ensures.len in
    argues_by c.args.clues.now c.args.self.now c.args.row c.args.col c.args.colour c.in-Some.place c.place_along-at.result c.index-steps-place.result c.steps-steps.ensures.account s.within s.same
    c.in-Some.ensures.1 c.place_along-at.ensures c.in_ok-premises.premises c.requires.not_given
    (rw (len, c.clue-clue.ensures.value) at c.in_ok-premises.ensures)
