use Rattle.std.proofs.Common.{◌≡◌, ◌++◌, List, OnOk, subst}
use Rattle.std.specs.List.{flat_map}
use Rattle.flaws.specs.declared.alike.Alike.{Alike}
use Rattle.report_text.specs.AssessmentText.{alike_text}
use Rattle.report_text.proofs.JoinLemmas.{joined}
use Rattle.report_text.proofs.flawed.push_flaws.Goals as goal

pub returns : goal.returns
returns c =
    let pairs =
    subst (λ (xs : List Alike). OnOk c.push_pairs.result (c.push_pairs.new.text.items ≡ c.push_spare.new.text.items ++ flat_map alike_text xs))
    c.deref.ensures.value c.push_pairs.ensures in
    joined c.push_pairs.result _ _ _ _ _ _ _ _ _ c.in_ok-push_flaw.ensures c.in_ok-push_flaw-2.ensures c.in_ok-push_spare.ensures pairs
