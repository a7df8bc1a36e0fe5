use Rattle.std.proofs.Common.{ℕ, IsBitSet, ap, arith, subst, ◌∙◌}
use Rattle.cert_check.specs.Machined.{Machined}
use Rattle.std.specs.Int.{bit_not, w16}
use Rattle.cert_check.proofs.MaskLemmas.{bits_of_and}
use Rattle.cert_check.proofs.machine.Machine.deny.Goals as goal

pub hold-requires-clause-left : goal.hold-requires-clause-left
hold-requires-clause-left c = λ k s.
    let left = rw c.at_hand.ensures at c.left-left.ensures.value in
    let P : ℕ → Type 0 = λ n. IsBitSet n k in
    subst P left (bits_of_and c.left-left.result (bit_not w16 c.args.literal.colours) k s).0

pub deny-requires-clause-in_rows : goal.deny-requires-clause-in_rows
deny-requires-clause-in_rows c =
    let size = ap (λ (m : Machined). m.height) c.self.view_is ∙ c.requires.right.height in
    let has = c.in-Some.ensures.0 in
    omega (arith, size, has.0, has.1, c.in-Some.ensures.1)

pub deny-requires-clause-in_columns : goal.deny-requires-clause-in_columns
deny-requires-clause-in_columns c =
    let size = ap (λ (m : Machined). m.width) c.self.view_is ∙ c.requires.right.width in
    let has = c.in-Some.ensures.0 in
    omega (arith, size, has.2, has.3, c.in-Some.ensures.2)
