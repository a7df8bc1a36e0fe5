use Rattle.std.proofs.Common.{arith, sym, ◌∙◌}
use Rattle.std.proofs.lemmas.Bool.{false≢true}
use Rattle.second_search.specs.Parts.{IsOpenCell}
use Rattle.second_search.proofs.ChainLemmas.{open_inside}
use Rattle.second_search.proofs.LookLemmas.{below_next}
use Rattle.second_search.proofs.parts.open_cells.first_open.Goals as goal

pub loop-col-preserved : goal.loop-col-preserved
loop-col-preserved c =
    below_next (λ k. IsOpenCell c.args.facts.now c.args.row k → ⊥) c.loop-col.col c.loop-col.invariant (λ o. false≢true (sym c.if-is_open.false ∙ c.is_open.ensures.1 o))

pub returns : goal.returns
returns c = λ k o.
    let inside = open_inside c.args.facts.now c.args.row k c.width-col-end.ensures.facts o in
    c.loop-col.invariant k (omega (arith, inside.1)) o
