use Rattle.std.proofs.Common.{arith}
use Rattle.assess.proofs.MapLemmas.{closable, map_settled, none_dead, settling_calls, settling_few}
use Rattle.assess.proofs.judging.settled.Goals as goal

pub settle_afresh-requires : goal.settle_afresh-requires
settle_afresh-requires g c =
    closable c.args.book.now c.args.document.now.picture c.in_ok-base.base _ c.height.ensures.picture c.requires.book c.requires.long c.in_ok-base.ensures.same_shape

pub returns-in-Ok-clause-map : goal.returns-in-Ok-clause-map
returns-in-Ok-clause-map g c =
    let d = c.args.document.now in
    map_settled c.args.book.now d.picture d.givens c.in_ok-base.base c.in-Ok.map c.requires.book c.in_ok-base.ensures c.in-Ok.ensures.settles.0

pub returns-in-Ok-clause-few : goal.returns-in-Ok-clause-few
returns-in-Ok-clause-few g c =
    settling_few c.args.book.now c.args.document.now.picture c.in_ok-base.base c.settle_afresh.result _ _ _ _ c.height-2.ensures.facts c.in_ok-base.ensures.same_shape c.settle_afresh.ensures.works

pub unreachable-requires : goal.unreachable-requires
unreachable-requires g c =
    let d = c.args.document.now in
    let dead = rw (c.in-Err-Dead.is, c.in-Err-Dead.field-0-is) at c.settle_afresh.ensures.settles in
    none_dead c.args.book.now d.picture d.givens c.in_ok-base.base c.height.ensures.picture c.requires.book c.in_ok-base.ensures dead

pub returns-in-Ok-clause-calls : goal.returns-in-Ok-clause-calls
returns-in-Ok-clause-calls g c =
    settling_calls c.args.book.now c.in_ok-base.base c.settle_afresh.result _ _ _ _ (let some = c.calls.ensures in omega (arith, some)) c.settle_afresh.ensures.works
