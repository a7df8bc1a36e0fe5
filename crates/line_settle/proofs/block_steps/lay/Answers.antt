use Rattle.std.proofs.Common.{◌+◌, ◌∙◌, ap, refl}
use Rattle.line_facts.specs.BitSets.{has}
use Rattle.line_settle.proofs.LayingLemmas.{covers_none, covers_more, moved_more}
use Rattle.line_settle.proofs.block_steps.lay.Goals as goal

pub loop-init : goal.loop-init
loop-init g c = record {
  cells_are = λ i h. ap (λ s. has s i) c.low-cells.ensures ∙ covers_none (g.W.Word.bits c.args.starts) i;
  ends_are = λ i h. refl;
}

pub loop-preserved : goal.loop-preserved
loop-preserved g c =
    let n = c.loop.counter in
    let w = g.W.Word.width in
    let starts = g.W.Word.bits c.args.starts in
    let cells = g.W.Word.bits c.loop.cells in
    let ends = g.W.Word.bits c.loop.ends in
    let kept = c.loop.invariant in
    record {
      cells_are = λ i h. ap (λ s. has s i) c.or-cells.ensures ∙ covers_more w starts cells ends n (n + 1) i refl kept.cells_are kept.ends_are h;
      ends_are = λ i h. ap (λ s. has s i) c.up-ends.ensures ∙ moved_more w starts ends n (n + 1) i refl kept.ends_are h;
    }
