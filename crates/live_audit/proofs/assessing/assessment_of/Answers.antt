use Rattle.std.proofs.Common.{IfOk, Result, Ok, Err, refl}
use Rattle.picture.specs.declared.document.Document.{Document}
use Rattle.edits.specs.Design.{design_of}
use Rattle.edits.proofs.DesignLemmas.{all_marked as marks_are_givens}
use Rattle.assess.specs.Assessed.{IsAssessment}
use Rattle.live_audit.specs.Assessing.{HoldsOf, IsDocumentOf}
use Rattle.live_audit.proofs.assessing.assessment_of.Goals as goal

-- what a call answers of a document holds of it
of_document : {X : Type 0} {E : Type 0} (document : Document) (Is : Document → X → Type 0) (result : Result X E) → IsDocumentOf (design_of document) document → IfOk result (Is document)
    → IfOk result (λ found. HoldsOf (design_of document) (λ d. Is d found))
of_document document Is (Ok found) parts is = (document, (parts, is))
of_document document Is (Err refused) parts is = tt

pub returns-clause-assessment : goal.returns-clause-assessment
returns-clause-assessment g c =
    let d = c.args.document.now in
    let parts : IsDocumentOf (design_of d) d = record { parts = refl; givens = record { set = c.know.ensures.givens; are = marks_are_givens d.picture d.givens d.inside } } in
    of_document d (λ document. IsAssessment document c.args.allowance) c.assess.result parts c.assess.ensures.assessment

pub returns-clause-few : goal.returns-clause-few
returns-clause-few g c =
    let d = c.args.document.now in
    (d, (record { parts = refl; givens = record { set = c.know.ensures.givens; are = marks_are_givens d.picture d.givens d.inside } }, c.assess.ensures.few))
