use Rattle.std.proofs.Common.{◌∙◌, List, ℕ, sym, ap, subst, length}
use Rattle.picture.specs.CellSet.{HasCell}
use Rattle.picture.specs.Laws.{CellsAreMembers}
use Rattle.line_facts.specs.FactSets.{IsBase, nothing_excluded}
use Rattle.line_facts.proofs.GivenLemmas.{full_base}
use Rattle.line_facts.proofs.facts.Facts.base.Goals as goal

pub returns-then-is_empty : goal.returns-then-is_empty
returns-then-is_empty c =
    let picture = c.args.document.now.picture in
    let givens = c.args.document.now.givens in
    let members : CellsAreMembers = c.cells_are_members.ensures in
    let H : List ℕ → Type 0 = λ set. (row col : ℕ) → HasCell set row col → ⊥ in
    let B : List (List ℕ) → Type 0 = λ facts. IsBase givens picture facts in
    let none = subst H (sym (c.is_empty.ensures.value.0 c.if-is_empty.true)) members.empty in
    let size = ap (λ height. nothing_excluded height c.width.result) c.height-height.ensures.value ∙ ap (nothing_excluded (length picture)) c.width.ensures.value in
    subst B (sym (c.in_ok-facts.ensures.value ∙ size)) (full_base picture c.height-height.ensures.picture givens none)
