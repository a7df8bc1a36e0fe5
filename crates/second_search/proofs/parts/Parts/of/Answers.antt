use Rattle.std.proofs.Common.{List, ℕ, ◌+◌, subst, arith}
use Rattle.second_search.specs.GrownParts.{ArePartsAbove}
use Rattle.second_search.proofs.RowLemmas.{all_rows, no_more}
use Rattle.second_search.proofs.parts.Parts.of.Goals as goal
use Rattle.second_search.proofs.parts.Parts.of.Goals.{in-Some+in_ok-take_in-in-Some, in-None}

pub loop-row-preserved : goal.loop-row-preserved
loop-row-preserved c =
    let facts = c.args.facts.now in
    let Q : List (List ℕ) → ℕ → Type 0 = λ parts row. ArePartsAbove facts parts (row + 1) in
    elim c.match-first_open.branch [
      | in-Some+in_ok-take_in-in-Some w ↦ rw w.parts-is (subst (Q w.take_in.new.self) w.in-Some.ensures.0 w.in_ok-take_in-in-Some.ensures)
      | in-None w ↦ rw w.parts-is (no_more facts c.loop-row.parts c.loop-row.row w.in-None.ensures c.loop-row.invariant)
    ]

pub returns : goal.returns
returns c = all_rows c.args.facts.now c.loop-row.parts c.loop-row.row c.height-row-end.ensures.facts (omega (arith, c.loop-row-test.false, c.height-row-end.ensures.value)) c.loop-row.invariant
