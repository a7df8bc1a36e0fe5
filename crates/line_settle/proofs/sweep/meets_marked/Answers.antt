use Rattle.line_settle.proofs.SweepLemmas.{meets_is}
use Rattle.line_settle.proofs.sweep.meets_marked.Goals as goal

pub returns : goal.returns
returns g c =
    let bits = g.W.Word.bits in
    meets_is (bits c.args.on.marked) (bits c.args.plain) (bits c.args.on.all) (bits c.args.marked) (bits c.and.result) (bits c.and-2.result)
    (bits c.or.result) c.is_none.result c.and.ensures c.and-2.ensures c.or.ensures c.is_none.ensures.value
