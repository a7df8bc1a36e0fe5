use Rattle.std.proofs.Common.{◌+◌, ◌<◌, sym, ap, ◌∙◌, arith, length}
use Rattle.std.proofs.lemmas.List.{length-take}
use Rattle.line_settle.specs.Patterns.{pattern_of}
use Rattle.line_settle.proofs.NarrowLemmas.{narrows_long, narrows_some, narrows_stuck, written_colours}
use Rattle.line_settle.proofs.line.narrow_line.Goals as goal
use Rattle.line_settle.proofs.line.narrow_line.Goals.{in_default-via-in-Some+else-cells-left, in_default-via-in_default}

pub returns-in_default : goal.returns-in_default
returns-in_default c =
    let l : length c.args.left.now + 1 < length (pattern_of c.args.blocks.now) = elim c.in_default.branch [
      | in_default-via-in-Some+else-cells-left w ↦ (let n = ap length w.in-Some.ensures.1 in omega (arith, w.in-Some.ensures.0, length-take w.in-Some.cells c.spell.new.buffer))
      | in_default-via-in_default w ↦ (let n = w.in_default.ensures in omega arith)
    ] in
    rw (c.fill.ensures.after (λ y h. h), ← c.requires.same_length) (narrows_long _ _ c.requires.blocks_of_clue l)

pub mark_finishing-requires-clause-colours : goal.mark_finishing-requires-clause-colours
mark_finishing-requires-clause-colours c = written_colours _ _ c.requires.blocks_of_clue c.in-Some.ensures.1

pub collect-requires-clause-colours : goal.collect-requires-clause-colours
collect-requires-clause-colours c = written_colours _ _ c.requires.blocks_of_clue c.in-Some.ensures.1

pub returns-then-not-row : goal.returns-then-not-row
returns-then-not-row c =
    let n = ap length c.in-Some.ensures.1 in
    let first = rw c.in-Some.ensures.1 at (c.mark_finishing.ensures.first 0 (omega arith)) in
    rw (c.fill-then-not-row.ensures.after (λ y h. h), ← c.requires.same_length) (narrows_stuck _ _ c.requires.blocks_of_clue (sym first ∙ c.if-not-row.true))

pub returns : goal.returns
returns c =
    let n = ap length c.in-Some.ensures.1 in
    let first = rw c.in-Some.ensures.1 at (c.mark_finishing.ensures.first 0 (omega arith)) in
    narrows_some _ _ _ c.requires.blocks_of_clue (omega (arith, c.requires.same_length)) (sym first ∙ c.if-not-row.false) (rw c.in-Some.ensures.1 at c.collect.ensures)
