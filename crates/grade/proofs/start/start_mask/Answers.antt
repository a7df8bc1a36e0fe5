use Rattle.std.proofs.Common.{◌*◌, ◌%◌, ◌^◌, ap, refl}
use Rattle.std.proofs.lemmas.Bool.{false≢true}
use Rattle.grade.proofs.StartLemmas.{given_mask, free_mask}
use Rattle.grade.proofs.start.start_mask.Goals as goal

pub returns-then-has : goal.returns-then-has
returns-then-has c = λ k.
    given_mask c.args.document.now.givens c.args.document.now.picture c.args.row c.args.col c.args.free _ k (c.if-has.ensures.value.0 refl)
    (c.cell-colour.ensures.picture.colours c.args.row c.args.col)
    (ap (λ n. 1 * 2 ^ n % 65536) c.cell-colour.ensures.value)

pub returns-else-has : goal.returns-else-has
returns-else-has c = λ k.
    free_mask c.args.document.now.givens c.args.document.now.picture c.args.row c.args.col c.args.free k (λ h. absurd (false≢true (c.if-has.ensures.value.1 h)))
