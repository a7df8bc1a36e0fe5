use Rattle.std.proofs.Common.{ℕ, IsBitSet, subst}
use Rattle.cert_check.proofs.MaskLemmas.{bits_of_and}
use Rattle.cert_check.proofs.machine.Machine.hold_to.Goals as goal

pub hold-requires-clause-left : goal.hold-requires-clause-left
hold-requires-clause-left c = λ k s.
    let left = rw c.at_hand-2.ensures at c.left-left.ensures.value in
    let P : ℕ → Type 0 = λ n. IsBitSet n k in
    subst P left (bits_of_and c.left-left.result c.args.literal.colours k s).0
