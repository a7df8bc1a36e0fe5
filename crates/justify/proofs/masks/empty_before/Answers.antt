use Rattle.std.proofs.Common.{arith, w64}
use Rattle.std.specs.Int.{trailing_zeros}
use Rattle.std.proofs.lemmas.Nat.Bits.{bit_at-trailing_zeros}
use Rattle.justify.proofs.GatherLemmas.{none_below, coloured_behind}
use Rattle.justify.proofs.masks.empty_before.Goals as goal

pub returns : goal.returns
returns c =
    let masks = c.args.masks.now in
    let s = trailing_zeros w64 c.args.rest in
    let t = bit_at-trailing_zeros w64 c.args.rest (omega arith) (omega arith) in
    let at = (c.requires.coloured.each s).0 t.1 in
    record {
      inside = at.0;
      few = t.0;
      none = none_below masks c.args.place c.args.end c.args.rest c.requires.coloured s t.2 t.1;
      here = at.1;
      behind = coloured_behind masks c.args.place c.args.end c.args.rest c.requires.coloured s;
    }
