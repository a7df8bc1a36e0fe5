use Rattle.assess.proofs.JudgeLemmas.{in_trees, none_short}
use Rattle.assess.proofs.grading.short_cert.Goals as goal

pub returns-in_err-found-clause-few : goal.returns-in_err-found-clause-few
returns-in_err-found-clause-few g c = in_trees c.args.document.now.picture _ _ c.make_small_cert.ensures.few

pub returns-clause-few : goal.returns-clause-few
returns-clause-few g c = in_trees c.args.document.now.picture _ _ c.make_small_cert.ensures.few

pub returns-clause-none : goal.returns-clause-none
returns-clause-none g c =
    let d = c.args.document.now in
    none_short d.picture d.givens _ _ c.in_ok-found.found c.if_short.result c.in_ok-found.ensures.makes c.in_ok-found.ensures.none c.if_short.ensures
