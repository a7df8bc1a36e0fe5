use Rattle.std.proofs.Common.{◌∙◌, ap, bit_and}
use Rattle.line_facts.specs.BitSets.{has}
use Rattle.line_settle.proofs.LayingLemmas.{gap_before}
use Rattle.line_settle.proofs.block_steps.before_gap.Goals as goal

pub returns-then-is_gap-clause-one : goal.returns-then-is_gap-clause-one
returns-then-is_gap-clause-one g c = λ e i.
    let background = g.W.Word.bits c.args.background in
    ap (λ s. has s i) (c.and.ensures ∙ ap (λ s. bit_and s background) c.down.ensures) ∙ gap_before (g.W.Word.bits c.args.later) background i
