use Rattle.std.proofs.Common.{ℕ, ◌*◌, ◌%◌, ◌^◌, List, map, bit_or, sym, subst, arith, set}
use Rattle.std.proofs.lemmas.List.{length-map, map-set}
use Rattle.line_settle.specs.Positions.{HasMade}
use Rattle.line_settle.proofs.SetStepLemmas.{made_more}
use Rattle.line_settle.proofs.position_tables.mark_colour.Goals as goal

pub returns-clause-after : goal.returns-clause-after
returns-clause-after g c =
    let bits = g.W.Word.bits in
    let left = c.args.left.now in
    let allowed = c.args.allowed.now in
    let made = c.args.made in
    let colour = c.args.colour in
    let sets = c.cells_with.result in
    let n = length-map allowed bits in
    let P : ℕ → Type 0 = λ n. HasMade left (bit_or made (1 * 2 ^ colour % 65536)) (map bits (set allowed n sets)) in
    let Q : List ℕ → Type 0 = λ ys. HasMade left (bit_or made (1 * 2 ^ colour % 65536)) ys in
    subst P (sym c.from.ensures) (subst Q (sym (map-set bits allowed colour sets))
    (made_more left (map bits allowed) made colour (bits sets) c.requires.colour (omega (arith, n, c.requires.sixteen)) c.cells_with.ensures c.requires.before))
