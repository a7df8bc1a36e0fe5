use Rattle.std.proofs.Common.{◌≡◌, ◌++◌, Bool, OnOk, subst}
use Rattle.report_text.specs.AssessmentText.{word_text}
use Rattle.report_text.proofs.JoinLemmas.{joined_five}
use Rattle.report_text.proofs.assessment.push_assessment.Goals as goal

pub returns : goal.returns
returns c =
    let word = subst (λ (b : Bool). OnOk c.push_word.result (c.push_word.new.text.items ≡ c.push_flaws.new.text.items ++ word_text b)) c.is_fit.ensures c.push_word.ensures in
    joined_five c.push_word.result _ _ _ _ _ _ _ _ _ _ _ c.in_ok-push_verdict.ensures c.in_ok-push_counts.ensures c.in_ok-push_rating.ensures c.in_ok-push_flaws.ensures word
