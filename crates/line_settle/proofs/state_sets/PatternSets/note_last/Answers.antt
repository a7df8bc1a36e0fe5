use Rattle.std.proofs.Common.{◌≡◌, ℕ, suc, ◌-◌, refl, arith, length, drop, get_or, map}
use Rattle.std.proofs.lemmas.List.{length-map, map-set}
use Rattle.line_settle.specs.Patterns.{finishes}
use Rattle.line_settle.specs.MarkedLists.{finishes_marked, unmarked}
use Rattle.line_settle.specs.StateSets.{sets_of}
use Rattle.line_settle.specs.Directions.End.{Back}
use Rattle.line_settle.proofs.SweepLemmas.{at_end, before_cell, noted_more, foreign_is, undrawn_more, undrawn_past, unmarked_over}
use Rattle.line_settle.proofs.state_sets.PatternSets.note_last.Goals as goal

pub cells-init : goal.cells-init
cells-init g c = record {
  inside = omega arith;
  undrawn = λ i h. undrawn_past c.args.self.now.colours c.args.drawn.now i (omega arith);
  later_is = λ pattern are. at_end g.W.Word.width pattern c.args.left.now c.args.drawn.now (sets_of g.W.Word.bits c.args.self.now) (length c.args.left.now) refl are;
  cell_is = rw c.moves_by-cell.ensures.mask c.moves_by-cell.ensures.moves;
  noted = λ pattern are j h l. absurd (omega arith);
}

pub cells-preserved : goal.cells-preserved
cells-preserved g c =
    let bits = g.W.Word.bits in
    let left = c.args.left.now in
    let drawn = c.args.drawn.now in
    let i : ℕ = c.cells.at - 1 in
    let inside = c.cells.invariant.inside in
    let up : c.cells.at ≡ suc i = omega arith in
    let sets = sets_of bits c.args.self.now in
    let here = foreign_is sets.colours (get_or drawn i 0) c.if-drawn-at-eq0.true in
    let behind = rw up at c.cells.invariant.later_is in
    record {
      inside = omega arith;
      undrawn = undrawn_more sets.colours drawn i here (rw up at c.cells.invariant.undrawn);
      later_is = λ pattern are.
          let later = behind pattern are in
          before_cell pattern left drawn i (unmarked (bits c.pass-states.result)) (omega arith) (omega arith)
          (unmarked_over Back g.W.Word.width pattern sets (get_or left i 0) (get_or drawn i 0) _ (finishes pattern (drop (suc i) left)) (finishes_marked pattern (drop (suc i) left) (drop (suc i) drawn))
          are here later.marked_are (c.pass-states.ensures pattern _ _ (c.moves_after-cell.ensures.moves pattern are) later.all_are));
      cell_is = rw c.moves_after-cell.ensures.mask c.moves_after-cell.ensures.moves;
      noted = λ pattern are.
          let l = length-map c.cells.plain bits in
          let k = length-map c.cells.marked bits in
          rw (map-set, map-set, c.low.ensures)
          (noted_more pattern left drawn (map bits c.cells.plain) (map bits c.cells.marked) i (unmarked (bits c.cells.states)) (omega arith) (omega arith) (behind pattern are)
          (λ j h b. c.cells.invariant.noted pattern are j (omega arith) b));
    }
