use Rattle.std.proofs.Common.{◌∙◌, ◌++◌, ℕ, List, Err, ap}
use Rattle.std.proofs.lemmas.Result.{err_from_is_err_and}
use Rattle.report_text.specs.AssessmentText.{assessment_text}
use Rattle.answers.proofs.AssessLemmas.{not_found}
use Rattle.answers.proofs.assessing.run_assess.Goals as goal

pub returns-in_err-found : goal.returns-in_err-found
returns-in_err-found c =
    let p = err_from_is_err_and c.from_residual-in_err-found.result c.from_residual-in_err-found.ensures.1 in
    not_found _ _ _ _ c.in_ok-document.document c.in_err-found.field-0.0 c.from_residual-in_err-found.result (p.1 ∙ ap Err p.2) c.in_ok-document.ensures c.in_err-found.ensures

pub returns : goal.returns
returns c = record {
  document = c.in_ok-document.document;
  publishes = c.in_ok-document.ensures;
  found = c.in_ok-found.found;
  finds = c.in_ok-found.ensures;
  text = c.in_ok-push_assessment.ensures ∙ ap (λ (x : List ℕ). x ++ assessment_text c.in_ok-found.found) c.new-text.ensures.items;
  palette = c.in_ok-palette.ensures;
  fit = c.is_fit.ensures;
}
