use Rattle.std.proofs.Common.{◌+◌, ◌∙◌, ap, refl, bit_and}
use Rattle.line_settle.proofs.LayingLemmas.{lays_more}
use Rattle.line_settle.proofs.block_steps.starts_before.Goals as goal

pub loop-preserved : goal.loop-preserved
loop-preserved g c =
    let n = c.loop.counter in
    let cells = g.W.Word.bits c.args.cells in
    let made = c.and-starts.ensures ∙ ap (λ s. bit_and s cells) c.down.ensures in
    record {
      starts_are = λ i. lays_more (g.W.Word.bits c.args.ends) cells (g.W.Word.bits c.loop.starts) (g.W.Word.bits c.and-starts.result) n (n + 1) i refl c.loop.invariant.starts_are made;
    }
