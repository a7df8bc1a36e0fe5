use Rattle.std.proofs.Common.{arith, length, ap}
use Rattle.line_settle.specs.Engine.{Engine}
use Rattle.line_settle.proofs.StoreLemmas.{rows_fit}
use Rattle.line_settle.proofs.plain_engine.PlainEngineLineEngine.narrow.Goals as goal

pub narrow_line-requires-clause-table_room : goal.narrow_line-requires-clause-table_room
narrow_line-requires-clause-table_room c =
    let longest = ap (λ (e : Engine). e.longest) c.self.view_is in
    let row = c.deref_mut-2.ensures.value in
    let table = c.deref_mut-3.ensures.value in
    rows_fit (length c.args.left.now) c.self.inside.longest (length c.deref_mut-2.result.now) (length c.deref_mut-3.result.now) (omega arith)
    (omega (arith, ap length row)) (omega (arith, ap length table))
