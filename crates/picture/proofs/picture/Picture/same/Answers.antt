use Rattle.std.proofs.Common.{◌≡◌, Bool, true, false, eqb, sym, ◌∙◌, ap, IsTrue}
use Rattle.std.specs.Cmp.Lexicographic.{pointwise}
use Rattle.std.proofs.lemmas.Bool.{false≢true, eqb-true, eq-eqb}
use Rattle.picture.proofs.FlatLemmas.{same_when, same_sizes}
use Rattle.picture.proofs.picture.Picture.same.Goals.{then-self-other, else-self-other}
use Rattle.picture.proofs.picture.Picture.same.Goals as goal

pub returns-then-self-other-2 : goal.returns-then-self-other-2
returns-then-self-other-2 c =
    let a = c.self.inside in
    let b = c.other.inside in
    let cells = c.eq.ensures ∙ ap (λ xs. pointwise eqb xs c.as_slice-then-self-other-2.result.now) c.as_slice.ensures.value
    ∙ ap (pointwise eqb a.cells.items) c.as_slice-then-self-other-2.ensures.value in
    elim c.if-self-other.branch [
      | then-self-other w ↦
          same_when a.height a.width b.height b.width a.cells.items b.cells.items _ _ c.self.view_is c.other.view_is c.self.invariant c.other.invariant
          w.if-self-other.true (eqb-true _ _ (sym w.value-is ∙ c.if-self-other-2.true)) c.eq.result cells
      | else-self-other w ↦ absurd (w.if-self-other.false (eqb-true _ _ (sym w.value-is ∙ c.if-self-other-2.true)))
    ]

differ : (b : Bool) (P : Type 0) → b ≡ false → (P → b ≡ true) → (IsTrue b → P) × (P → IsTrue b)
differ b P is_false holds = (λ (t : b ≡ true). absurd (false≢true (sym is_false ∙ t)), holds)

pub returns-else-self-other-2 : goal.returns-else-self-other-2
returns-else-self-other-2 c =
    let a = c.self.inside in
    let b = c.other.inside in
    let sizes = same_sizes a.height a.width b.height b.width a.cells.items b.cells.items _ _ c.self.view_is c.other.view_is c.self.invariant c.other.invariant in
    elim c.if-self-other.branch [
      | then-self-other w ↦ differ _ _ c.if-self-other-2.false (λ same. w.value-is ∙ eq-eqb _ _ (sizes same).1)
      | else-self-other w ↦ differ _ _ c.if-self-other-2.false (λ same. absurd (w.if-self-other.false (sizes same).0))
    ]
