use Rattle.std.proofs.Common.{sym, ◌∙◌}
use Rattle.std.proofs.lemmas.Bool.{eqb-true, eq-eqb}
use Rattle.picture.proofs.line_set.LineSet.is_empty.Goals as goal
use Rattle.picture.proofs.LineSetLaws.{members}

pub returns-clause-value : goal.returns-clause-value
returns-clause-value c =
    let by = members.counted c.args.self.now in
    ((λ t. by.0 (sym c.len.ensures.value ∙ eqb-true _ _ t)), (λ e. eq-eqb _ _ (c.len.ensures.value ∙ by.1 e)))
