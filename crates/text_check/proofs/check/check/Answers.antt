use Rattle.std.proofs.Common.{ℕ, List, Option, subst}
use Rattle.text_check.specs.Check.{IsSetOfThese}
use Rattle.text_check.proofs.CheckLemmas.{any_unique, set_only, set_only_lemmas, set_unique}
use Rattle.text_check.proofs.check.check.Goals as goal

pub returns-in-None-clause-unique : goal.returns-in-None-clause-unique
returns-in-None-clause-unique c = λ cells is.
    any_unique c.args.picture.now c.args.cert.now c.check_cert.result cells (subst (λ (s : Option (List ℕ)). IsSetOfThese s cells) c.in-None.is is) c.check_cert.ensures.unique

pub returns-clause-only : goal.returns-clause-only
returns-clause-only c = λ cells is proof among.
    set_only c.args.picture.now _ c.args.cert.now c.check_published.result cells (subst (λ (s : Option (List ℕ)). IsSetOfThese s cells) c.in-Some.is is) c.check_published.ensures.first proof among

pub returns-clause-only_lemmas : goal.returns-clause-only_lemmas
returns-clause-only_lemmas c = λ cells is proof among.
    set_only_lemmas c.args.picture.now _ c.args.cert.now c.check_published.result cells (subst (λ (s : Option (List ℕ)). IsSetOfThese s cells) c.in-Some.is is) c.check_published.ensures.only proof among

pub returns-clause-unique : goal.returns-clause-unique
returns-clause-unique c = λ cells is.
    set_unique c.args.picture.now _ c.args.cert.now c.check_published.result cells (subst (λ (s : Option (List ℕ)). IsSetOfThese s cells) c.in-Some.is is) c.check_published.ensures.unique
