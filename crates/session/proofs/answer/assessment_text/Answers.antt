use Rattle.std.proofs.Common.{◌∙◌, ℕ, Option, ap, subst}
use Rattle.live_audit.specs.Assessing.{IsAssessmentOf}
use Rattle.session.specs.Allowing.{assess_allowance}
use Rattle.session.proofs.AnswerLemmas.{from_nothing}
use Rattle.session.proofs.answer.assessment_text.Goals as goal

pub returns-clause-text : goal.returns-clause-text
returns-clause-text g c =
    let bound = c.assess_allowance-bound.ensures ∙ ap (assess_allowance c.args.is_off) c.allowance.ensures in
    let found = c.in_ok-found.found in
    (found, (subst (λ (a : Option ℕ). IsAssessmentOf c.args.bench.now.history.document a found) bound c.in_ok-found.ensures.assessment, from_nothing _ _ _ c.in_ok-push_assessment.ensures c.new-text.ensures.items))
