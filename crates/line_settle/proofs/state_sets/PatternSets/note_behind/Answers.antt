use Rattle.std.proofs.Common.{◌≡◌, ℕ, suc, ◌-◌, arith, drop, get_or, map}
use Rattle.std.proofs.lemmas.List.{length-map, map-set}
use Rattle.line_settle.specs.Patterns.{finishes}
use Rattle.line_settle.specs.MarkedLists.{finishes_marked, reached_of}
use Rattle.line_settle.proofs.SweepLemmas.{before_cell, noted_more}
use Rattle.line_settle.proofs.state_sets.PatternSets.note_behind.Goals as goal

pub loop-i-init : goal.loop-i-init
loop-i-init g c = record {
  later_is = λ pattern are. rw c.low.ensures (c.note_last-last.ensures.later pattern are);
  cell_is = rw c.moves_by-cell.ensures.mask c.moves_by-cell.ensures.moves;
  noted = c.note_last-last.ensures.noted;
}

pub loop-i-preserved : goal.loop-i-preserved
loop-i-preserved g c =
    let bits = g.W.Word.bits in
    let left = c.args.left.now in
    let drawn = c.args.drawn.now in
    let i : ℕ = c.loop-i.i - 1 in
    let up : c.loop-i.i ≡ suc i = omega arith in
    let later = rw up at c.loop-i.invariant.later_is in
    record {
      later_is = λ pattern are.
          before_cell pattern left drawn i (reached_of bits c.pass-later.result) (omega arith) (omega arith)
          (c.pass-later.ensures pattern (get_or left i 0) (finishes pattern (drop (suc i) left)) (finishes_marked pattern (drop (suc i) left) (drop (suc i) drawn)) are
          (c.moves_after-cell.ensures.moves pattern are) (later pattern are));
      cell_is = rw c.moves_after-cell.ensures.mask c.moves_after-cell.ensures.moves;
      noted = λ pattern are.
          let l = length-map c.loop-i.plain bits in
          let m = length-map c.loop-i.marked bits in
          rw (map-set, map-set) (noted_more pattern left drawn (map bits c.loop-i.plain) (map bits c.loop-i.marked) i (reached_of bits c.loop-i.later) (omega arith) (omega arith) (later pattern are)
          (λ j h l. c.loop-i.invariant.noted pattern are j (omega arith) l));
    }

pub returns-clause-noted : goal.returns-clause-noted
returns-clause-noted g c = λ pattern are i l. c.loop-i.invariant.noted pattern are i (omega arith) l
