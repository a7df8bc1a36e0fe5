use Rattle.std.proofs.Common.{◌≡◌, ◌<◌, refl, arith, bit_and, inr, length, get_or, map, add-one}
use Rattle.line_settle.specs.Patterns.{reaches}
use Rattle.line_settle.specs.MarkedLists.{reaches_marked, unmarked}
use Rattle.line_settle.specs.StateSets.{sets_of}
use Rattle.std.proofs.lemmas.List.{get_or-map}
use Rattle.line_settle.specs.Directions.End.{Front}
use Rattle.line_settle.proofs.SweepLemmas.{Reaches, first_reached, foreign_is, none_swept, step_kept, step_out, share_test, test_first, unmarked_over}
use Rattle.line_settle.proofs.state_sets.PatternSets.sweep_first.Goals as goal
use Rattle.line_settle.proofs.state_sets.PatternSets.sweep_first.Goals.{then-is_none, else-is_none}

pub cells-init : goal.cells-init
cells-init g c = record {
  inside = omega arith;
  swept = record {
    small = λ t. let fits = c.type_inv.left t in omega arith;
    from_is = λ pattern are.
        first_reached g.W.Word.width pattern c.args.left.now c.args.drawn.now (sets_of g.W.Word.bits c.args.self.now) (g.W.Word.bits c.low-states.result) 0 c.low-states.ensures refl are;
    so_far = λ pattern are tables none. none_swept pattern c.args.drawn.now c.args.left.now none;
  };
}

pub cells-preserved : goal.cells-preserved
cells-preserved g c =
    let w = g.W.Word.width in
    let bits = g.W.Word.bits in
    let sets = sets_of bits c.args.self.now in
    let drawn = c.args.drawn.now in
    let marked = map bits c.args.behind.now.marked.now in
    let left = c.cells.left in
    let i = c.cells.at in
    let on = bits c.pass-on.result in
    let swept = c.cells.invariant.swept in
    let inside : i < length left = omega arith in
    let same : length drawn ≡ length left = omega arith in
    let foreign = foreign_is sets.colours (get_or drawn i 0) c.if-drawn-at-eq0.true in
    let at_marked = get_or-map bits c.args.behind.now.marked.now i c.index-behind-at.result 0 (omega arith) in
    let both : bits c.and.result ≡ bit_and on (get_or marked i 0) = rw (c.and.ensures, ← at_marked) refl in
    let test = share_test on (get_or marked i 0) (bits c.and.result) c.is_none.result both c.is_none.ensures.value in
    let first = test_first on (get_or (map bits c.args.behind.now.plain.now) i 0) (get_or marked i 0) in
    let ons : Reaches w sets drawn left i 65535 (unmarked on) = λ pattern are.
    (let from = swept.from_is pattern are in
    unmarked_over Front w pattern sets 65535 (get_or drawn i 0) on (reaches pattern left i) (reaches_marked pattern left drawn i) are foreign from.marked_are
    (c.pass-on.ensures pattern 65535 (reaches pattern left i) (c.moves_by-full.ensures.moves pattern are) from.all_are)) in
    record {
      inside = omega arith;
      swept = rw add-one (elim c.if-is_none.branch [
        | then-is_none x ↦ rw (x.states-is, x.left-is) (step_out w sets drawn _ _ _ left _ (unmarked on) i inside same swept ons (λ s. test.1 x.if-is_none.true (first.0 s)))
        | else-is_none x ↦
            let to = bits x.pass-states.result in
            let nexts : Reaches w sets drawn left i (get_or left i 0) (unmarked to) = λ pattern are.
            (let from = swept.from_is pattern are in
            unmarked_over Front w pattern sets (get_or left i 0) (get_or drawn i 0) to (reaches pattern left i) (reaches_marked pattern left drawn i) are foreign from.marked_are
            (x.pass-states.ensures pattern _ (reaches pattern left i) (x.moves_by.ensures.moves pattern are) from.all_are)) in
            rw (x.states-is, x.left-is) (step_kept w sets drawn _ _ _ left _ (unmarked on) (unmarked to) i inside same swept ons nexts (inr (test.0 x.if-is_none.false)))
      ]);
    }
