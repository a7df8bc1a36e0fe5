use Rattle.std.proofs.Common.{◌+◌, ◌∙◌, List, ℕ, subst, sym}
use Rattle.std.proofs.lemmas.Bool.{false≢true}
use Rattle.second_search.specs.Learning.{PutsOutside}
use Rattle.second_search.proofs.LearnLemmas.{none_put, one_left, one_put}
use Rattle.second_search.proofs.learning.put_outside.Goals as goal
use Rattle.second_search.proofs.learning.put_outside.Goals.{then-not-has, else-not-has}

pub loop-col-init : goal.loop-col-init
loop-col-init c = none_put c.args.cells.now c.args.outside.now c.args.row

pub loop-col-preserved : goal.loop-col-preserved
loop-col-preserved c =
    let cells = c.args.cells.now in
    let old = c.args.outside.now in
    let row = c.args.row in
    let col = c.loop-col.col in
    let so_far = c.loop-col.invariant in
    let P : List ℕ → Type 0 = PutsOutside cells row (col + 1) old in
    elim c.if-not-has.branch [
      | then-not-has w ↦
          subst P (sym w.outside-is) (one_put cells old c.loop-col.outside w.put.new.self row col (λ has. false≢true (sym w.if-not-has.true ∙ c.has.ensures.value.1 has)) so_far w.put.ensures.members)
      | else-not-has w ↦ subst P (sym w.outside-is) (one_left cells old c.loop-col.outside row col (c.has.ensures.value.0 w.if-not-has.false) so_far)
    ]
