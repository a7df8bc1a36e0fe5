use Rattle.std.proofs.Common.{◌<◌, arith, length, map}
use Rattle.std.proofs.lemmas.List.{length-map, map-set}
use Rattle.line_settle.proofs.SetStepLemmas.{seen_at}
use Rattle.line_settle.proofs.WordLemmas.{word_at}
use Rattle.line_settle.proofs.position_tables.see_colour.Goals as goal

pub returns : goal.returns
returns g c = λ i k.
    let bits = g.W.Word.bits in
    let seen = c.args.seen.now in
    let at = c.from-at.result in
    let n = length-map seen bits in
    let inside : at < length seen = omega (arith, c.from-at.ensures, c.requires.sixteen) in
    let old = word_at bits seen at c.index-seen-at.result inside c.index-seen-at.is in
    rw (map-set, c.or.ensures, old) (seen_at (map bits seen) c.args.colour at (bits c.args.set) i k c.from-at.ensures (omega (arith, n, c.requires.sixteen)))
