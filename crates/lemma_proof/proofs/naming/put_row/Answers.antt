use Rattle.std.proofs.Common.{◌∙◌, ◌+◌, ◌++◌, [], ◌∷◌, ap, arith, subst, sym, List, ℕ, Vec, Global}
use Rattle.std.proofs.lemmas.Bool.{false≢true}
use Rattle.cert_text.specs.declared.cert_line.CellNumber.{CellNumber}
use Rattle.lemma_proof.specs.Naming.{NamesUpTo}
use Rattle.lemma_proof.proofs.NumberLemmas.{more_named, same_named, same_number}
use Rattle.lemma_proof.proofs.naming.put_row.Goals as goal
use Rattle.lemma_proof.proofs.naming.put_row.Goals.{then-has+in_ok-push, else-has}

pub loop-col-preserved : goal.loop-col-preserved
loop-col-preserved c =
    let row = c.args.row in
    let col = c.loop-col.col in
    let givens = c.args.givens.now in
    let so_far = c.loop-col.invariant in
    let P : List CellNumber → Type 0 = NamesUpTo givens row (col + 1) in
    elim c.if-has.branch [
      | then-has+in_ok-push w ↦
          more_named givens row col c.loop-col.cells.items _ (omega arith) (omega arith) (c.has.ensures.value.0 w.if-has.true) (ap (λ (v : Vec CellNumber Global). v.items) w.cells-is
          ∙ (w.in_ok-push.ensures.items ∙ ap (λ (cell : CellNumber). c.loop-col.cells.items ++ (cell ∷ []))
          (same_number _ row col (ap (λ (x : ℕ). x + 1) w.from.ensures) (ap (λ (x : ℕ). x + 1) w.from-then-has.ensures)))) so_far
      | else-has w ↦
          subst P (sym (ap (λ (v : Vec CellNumber Global). v.items) w.cells-is))
          (same_named givens row col c.loop-col.cells.items (λ has. false≢true (sym w.if-has.false ∙ c.has.ensures.value.1 has)) so_far)
    ]
