use Rattle.std.proofs.Common.{◌+◌, ◌*◌, ◌%◌, ◌^◌, ◌∙◌, ap, arith}
use Rattle.line_facts.specs.BitSets.{has}
use Rattle.line_settle.proofs.PositionLemmas.{none_moved_up}
use Rattle.line_settle.proofs.LayingLemmas.{gap_behind}
use Rattle.line_settle.proofs.block_steps.behind_gap.Goals as goal

pub returns-then-is_gap-clause-first : goal.returns-then-is_gap-clause-first
returns-then-is_gap-clause-first g c = λ e. ap (λ s. has s 0) c.up.ensures ∙ none_moved_up g.W.Word.width (g.W.Word.bits c.and.result) (omega (arith, g.met.W.Word.wide))

pub returns-then-is_gap-clause-one : goal.returns-then-is_gap-clause-one
returns-then-is_gap-clause-one g c = λ e i h.
    let w = g.W.Word.width in
    ap (λ s. has s (i + 1)) (c.up.ensures ∙ ap (λ s. s * 2 % 2 ^ w) c.and.ensures) ∙ gap_behind w (g.W.Word.bits c.args.from) (g.W.Word.bits c.args.background) i h
