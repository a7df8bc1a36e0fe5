use Rattle.std.proofs.Common.{arith, refl, sym, ◌∙◌}
use Rattle.std.proofs.lemmas.Bool.{false≢true}
use Rattle.second_search.proofs.GrowLemmas.{gathered_open, gathered_shut, whole_line}
use Rattle.second_search.proofs.parts.growth.Growth.gather.Goals as goal
use Rattle.second_search.proofs.parts.growth.Growth.gather.Goals.{then-is_open, else-is_open}

pub loop-i-init : goal.loop-i-init
loop-i-init c = record { grown = λ row col g. g; here = λ k l. absurd (omega arith); waits = c.requires.waits; unvisited = refl }

pub loop-i-preserved : goal.loop-i-preserved
loop-i-preserved c =
    let facts = c.args.facts.now in
    let line = c.args.line in
    let cell = c.on-cell.result in
    elim c.if-is_open.branch [
      | then-is_open w ↦ rw w.self-is (gathered_open facts line c.args.self.now c.loop-i.self w.take_in.new.self c.loop-i.i cell.row cell.col c.on-cell.ensures.row c.on-cell.ensures.col
          (c.is_open.ensures.0 w.if-is_open.true) w.take_in.ensures c.loop-i.invariant)
      | else-is_open w ↦ rw w.self-is (gathered_shut facts line c.args.self.now c.loop-i.self c.loop-i.i cell.row cell.col c.on-cell.ensures.row c.on-cell.ensures.col
          (λ o. false≢true (sym w.if-is_open.false ∙ c.is_open.ensures.1 o)) c.loop-i.invariant)
    ]

pub returns-clause-open_cells : goal.returns-clause-open_cells
returns-clause-open_cells c =
    whole_line c.args.facts.now c.args.line c.loop-i.self.cells c.line_len-i-end.result c.line_len-i-end.ensures.facts c.requires.has c.line_len-i-end.ensures.len
    (λ k l. c.loop-i.invariant.here k (omega (arith, c.loop-i-test.false)))
