use Rattle.std.proofs.Common.{◌≡◌, length, replicate}
use Rattle.justify.proofs.ReasonLemmas.{marked}
use Rattle.justify.proofs.masks.mark.Goals as goal

pub returns : goal.returns
returns c =
    let n = length c.args.masks.now in
    let e : c.fill.new.self ≡ replicate n 0 = c.fill.ensures.after (λ y h. h) in
    rw c.from.ensures (marked c.fill.new.self n c.args.place c.args.colour e c.requires.place c.requires.in_colours)
