use Rattle.std.proofs.Common.{◌≡◌, ◌<◌, ◌+◌, ℕ, List, length, subst, sym, arith}
use Rattle.picture.specs.Rows.{width_of, cell_at}
use Rattle.line_facts.specs.Masks.{IsOnly}
use Rattle.line_facts.specs.FactSets.{SameShape}
use Rattle.second_search.proofs.LookLemmas.{more_shown, only_small, others_shown, shape_shown}
use Rattle.second_search.proofs.looking.show_row.Goals as goal
use Rattle.second_search.proofs.looking.show_row.Goals.{in-Some, in-None}

pub set-requires-clause-in_colours : goal.set-requires-clause-in_colours
set-requires-clause-in_colours c = only_small c.args.facts.now c.args.row c.loop-col.col c.in-Some.colour c.width-width.ensures.facts c.in-Some.ensures

pub loop-col-preserved : goal.loop-col-preserved
loop-col-preserved c =
    let i = c.loop-col.invariant in
    let facts = c.args.facts.now in
    let old = c.loop-col.picture in
    let row = c.args.row in
    let col = c.loop-col.col in
    let is = c.width-width.ensures.facts in
    let h : row < length facts = c.requires.in_rows in
    let l : col < width_of facts = omega arith in
    let P : List (List ℕ) → Type 0 = λ new. record {
      same_shape : SameShape new facts;
      here : (k : ℕ) → k < col + 1 → IsOnly (cell_at facts row k) (cell_at new row k);
      elsewhere : (r k : ℕ) → (r ≡ row → ⊥) → cell_at new r k ≡ cell_at c.args.picture.now r k;
    } in
    elim c.match-shown.branch [
      | in-Some w ↦ subst P (sym w.picture-is) (subst P (sym w.set.ensures) (record {
        same_shape = shape_shown facts old row col w.in-Some.colour i.same_shape;
        here = more_shown facts old row col w.in-Some.colour is i.same_shape h l w.in-Some.ensures i.here;
        elsewhere = others_shown c.args.picture.now old row col w.in-Some.colour i.elsewhere;
      }))
      | in-None w ↦ absurd (let s = c.requires.settled row col h l in w.in-None.ensures s.0 s.1)
    ]
