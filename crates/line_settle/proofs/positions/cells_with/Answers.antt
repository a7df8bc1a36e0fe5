use Rattle.std.proofs.Common.{◌-◌, ◌*◌, ◌%◌, ◌^◌, ◌∙◌, bit_or, sym, ap, arith, length, drop}
use Rattle.std.proofs.lemmas.List.{length-take-le, length-drop}
use Rattle.line_facts.specs.BitSets.{has}
use Rattle.line_settle.proofs.GatheringLemmas.{two_halves, whole_taken}
use Rattle.line_settle.proofs.positions.cells_with.Goals as goal

pub returns-then-left-le64 : goal.returns-then-left-le64
returns-then-left-le64 g c = λ i h. ap (λ s. has s i) c.low.ensures ∙ c.near_with.ensures i

pub slice_bounds-near_with-end : goal.slice_bounds-near_with-end
slice_bounds-near_with-end g c = sym (length-take-le 64 c.args.left.now (omega arith))

pub near_with-front-requires-clause-short : goal.near_with-front-requires-clause-short
near_with-front-requires-clause-short g c = omega (arith, length-take-le 64 c.args.left.now (omega arith))

pub near_with-rest-requires-clause-short : goal.near_with-rest-requires-clause-short
near_with-rest-requires-clause-short g c = omega (arith, length-drop 64 c.args.left.now, c.requires.short, g.met.W.Word.narrow)

pub returns : goal.returns
returns g c = λ i h.
    let w = g.W.Word.width in
    let left = c.args.left.now in
    let front = c.near_with-front.result in
    let rest = c.near_with-rest.result in
    let first = g.W.Word.bits c.low-2.result in
    let behind = c.up.ensures ∙ ap (λ s. s * 2 ^ 64 % 2 ^ w) c.low-3.ensures in
    let all = c.or.ensures ∙ (ap (λ s. bit_or s (g.W.Word.bits c.up.result)) c.low-2.ensures ∙ ap (λ s. bit_or front s) behind) in
    ap (λ s. has s i) all ∙ two_halves w left front rest c.args.colour c.near_with-front.type_inv c.near_with-front.ensures
    (λ j. c.near_with-rest.ensures j ∙ whole_taken (drop 64 left) c.args.colour (length left - 64) j (omega (arith, length-drop 64 left))) i (omega (arith, c.requires.short))
