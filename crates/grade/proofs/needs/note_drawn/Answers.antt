use Rattle.std.proofs.Common.{ℕ, ◌<◌, ◌^◌, get_or, arith}
use Rattle.justify.proofs.LineMaskLemmas.{lost_kept}
use Rattle.grade.proofs.needs.note_drawn.Goals as goal

pub returns-clause-drawn : goal.returns-clause-drawn
returns-clause-drawn c =
    let before : (i : ℕ) → get_or c.args.before.now i 0 < 2 ^ 16 = λ i. (let f = c.type_inv.before i in omega arith) in
    let after : (i : ℕ) → get_or c.args.after.now i 0 < 2 ^ 16 = λ i. (let f = c.type_inv.after i in omega arith) in
    let same = c.loop-place.invariant.same_length in
    (lost_kept c.args.before.now c.args.after.now c.loop-place.drawn c.loop-place.place (omega (arith, same, c.requires.after)) (omega (arith, c.requires.before, c.requires.after))
    (omega (arith, same, c.requires.after, c.loop-place-test.false)) before after c.loop-place.invariant.done).colours
