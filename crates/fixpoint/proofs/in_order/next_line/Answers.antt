use Rattle.fixpoint.proofs.OrderLemmas.{next_ahead, next_behind, next_crossing, no_next}
use Rattle.fixpoint.proofs.in_order.next_line.Goals as goal

pub returns-in-Some : goal.returns-in-Some
returns-in-Some c =
    let f = c.in-Some.ensures.value in
    (f.within, next_ahead c.args.lines.now c.args.axis c.args.from c.in-Some.ensures.set c.requires c.in-Some.at f)

pub returns-in-Some-first_from : goal.returns-in-Some-first_from
returns-in-Some-first_from c =
    let f = c.in-Some-first_from.ensures.value in
    (f.within, next_crossing c.args.lines.now c.args.axis c.args.from c.in_default.ensures.set c.requires c.in_default.ensures.value _ c.crossing-crossing.ensures _ f)

pub returns : goal.returns
returns c =
    let f = c.in_ok-at.ensures.value in (
      f.within,
      next_behind c.args.lines.now c.args.axis c.args.from c.in_default.ensures.set c.requires c.in_default.ensures.value _ c.crossing-crossing.ensures c.in_default-first_from.ensures.value _ f,
    )

pub returns-in_err-at : goal.returns-in_err-at
returns-in_err-at c =
    rw c.from_residual.ensures
    (no_next c.args.lines.now c.args.axis c.args.from c.in_default.ensures.set c.requires c.in_default.ensures.value _ c.crossing-crossing.ensures c.in_default-first_from.ensures.value
    c.in_err-at.ensures.value)
