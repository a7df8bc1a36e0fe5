-- What an assessment by a certificate says of a puzzle whose givens are published.
use Rattle.std.specs.Prelude.{◌≡◌, ◌⊎◌, None, Some}
use Rattle.picture.specs.declared.document.Document.{Document}
use Rattle.cert_text.specs.Cert.{Certificate}
use Rattle.cert_text.specs.declared.fault.CertFault.{CertFault}
use Rattle.cert_text.specs.declared.fault.CertFault.TheVariants.{Memory}
use Rattle.cert_check.specs.Published.{IsPublishedUnique, PublishedFirstFault}
use Rattle.assess.specs.declared.assessment.Assessment.{Assessment}
use Rattle.assess.specs.declared.assessment.Verdict.TheVariants.{Unique}
use Rattle.assess.specs.Assessed.{IsDescribed}
use Rattle.assess.specs.Grades.{IsGraded}
use Rattle.assess.specs.Spares.{IsSpare}

-- The checker accepts the certificate for the published givens, so that there is one solution. All else is as in an
-- assessment by a search that finds this.
pub record IsAssessmentBy (document : Document) (cert : Certificate) (found : Assessment) : Type 0 where
  pub described : IsDescribed document found
  pub accepted : PublishedFirstFault document.picture document.givens cert None
  pub unique : IsPublishedUnique document.picture document.givens
  pub verdict : found.verdict ≡ Unique
  pub graded : IsGraded document.picture document.givens found.figures found.cert found.grade
  pub spare : IsSpare document.picture document.givens found.spare

-- memory ran out, or the checker refuses the certificate with this error
abbrev pub IsRefused : Document → Certificate → CertFault → Type 0
IsRefused document cert fault =
    (fault ≡ Memory) ⊎ PublishedFirstFault document.picture document.givens cert (Some fault)
