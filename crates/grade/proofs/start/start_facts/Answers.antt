use Rattle.std.proofs.Common.{arith}
use Rattle.grade.proofs.StartLaws.{start_sizes}
use Rattle.grade.proofs.StartLemmas.{row_started, all_started}
use Rattle.grade.proofs.start.start_facts.Goals as goal

pub loop-row-preserved : goal.loop-row-preserved
loop-row-preserved c = row_started _ _ _ _ _ _ c.loop-row.invariant c.make_start_row.ensures

pub returns-clause-start : goal.returns-clause-start
returns-clause-start c =
    all_started c.args.book.now _ _ _ _ _ c.named_colours-free.ensures (omega (arith, c.height-height.ensures.value, c.loop-row-test.false)) c.loop-row.invariant

pub returns-clause-sizes : goal.returns-clause-sizes
returns-clause-sizes c = λ e. start_sizes _ _ _ c.height-height.ensures.picture e c.loop-row.invariant.same_shape
