use Rattle.std.proofs.Common.{length}
use Rattle.assess.specs.Grades.{IsShortCert}
use Rattle.assess.proofs.JudgeLemmas.{trees_and_lines, trees_only}
use Rattle.assess.proofs.grading.grade.Goals as goal

pub returns-in_err-cert-clause-few : goal.returns-in_err-cert-clause-few
returns-in_err-cert-clause-few g c = trees_only c.args.document.now.picture _ _ c.short_cert.ensures.few

pub returns-in_default-clause-few : goal.returns-in_default-clause-few
returns-in_default-clause-few g c = trees_only c.args.document.now.picture _ _ c.short_cert.ensures.few

pub returns-in_err-grade-clause-few : goal.returns-in_err-grade-clause-few
returns-in_err-grade-clause-few g c =
    let d = c.args.document.now in
    let made : IsShortCert d.picture d.givens c.in-Some.cert = rw c.in-Some.is at c.in_ok-cert.ensures.makes in
    trees_and_lines d.picture (length c.in-Some.cert.lines) _ _ _ c.short_cert.ensures.few c.grade_by.ensures.few made.short

pub returns-clause-few : goal.returns-clause-few
returns-clause-few g c =
    let d = c.args.document.now in
    let made : IsShortCert d.picture d.givens c.in-Some.cert = rw c.in-Some.is at c.in_ok-cert.ensures.makes in
    trees_and_lines d.picture (length c.in-Some.cert.lines) _ _ _ c.short_cert.ensures.few c.grade_by.ensures.few made.short

pub returns-in_default-clause-unknown : goal.returns-in_default-clause-unknown
returns-in_default-clause-unknown g c = λ none. rw c.in_default.is at c.in_ok-cert.ensures.none
