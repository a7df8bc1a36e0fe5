use Rattle.std.proofs.Common.{◌*◌, ◌%◌, ◌^◌, ap, refl}
use Rattle.std.proofs.lemmas.Bool.{false≢true}
use Rattle.line_facts.proofs.BaseLemmas.{given_open, free_open}
use Rattle.line_facts.proofs.base.base_mask.Goals as goal

pub returns-then-has : goal.returns-then-has
returns-then-has c = λ k.
    given_open c.args.document.now.givens c.args.document.now.picture c.args.row c.args.col _ k (c.if-has.ensures.value.0 refl) (c.cell-colour.ensures.picture.colours c.args.row c.args.col)
    (ap (λ n. 1 * 2 ^ n % 65536) c.cell-colour.ensures.value)

pub returns-else-has : goal.returns-else-has
returns-else-has c = λ k.
    free_open c.args.document.now.givens c.args.document.now.picture c.args.row c.args.col 65535 k (λ h. absurd (false≢true (c.if-has.ensures.value.1 h))) refl
