use Rattle.std.proofs.Common.{ℕ, refl, sym, ◌∙◌, arith}
use Rattle.std.proofs.lemmas.List.Elements.{All-get_or, All-from_get_or}
use Rattle.std.specs.Prelude.{IsTrue}
use Rattle.line_settle.specs.Patterns.{allows}
use Rattle.line_settle.proofs.ShownLemmas.{common_more}
use Rattle.line_settle.proofs.shown_line.allow_background.Goals as goal

pub loop-mask-init : goal.loop-mask-init
loop-mask-init c = ((λ h i l. absurd (omega arith)), (λ h. refl))

pub loop-mask-preserved : goal.loop-mask-preserved
loop-mask-preserved c = common_more c.args.left.now c.loop-mask.common c.loop-mask.mask-index c.loop-mask.invariant

pub returns : goal.returns
returns c =
    let left = c.args.left.now in
    let P : ℕ → Type 0 = λ mask. IsTrue (allows mask 0) in (
      (λ h. All-from_get_or P left 0 (λ i l. c.loop-mask.invariant.0 (sym c.allows.ensures ∙ h) i (omega arith))),
      (λ a. c.allows.ensures ∙ c.loop-mask.invariant.1 (λ i l. All-get_or P left i 0 (omega arith) a)),
    )
