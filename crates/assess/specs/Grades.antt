-- The grade of a puzzle with one solution.
use Rattle.std.specs.Prelude.{◌≡◌, ◌⊎◌, ℕ, ◌<◌, ◌≤◌, List, Option, None, Some, length}
use Rattle.picture.specs.Rows.{Rows}
use Rattle.cert_text.specs.Cert.{Certificate}
use Rattle.assess.specs.declared.guesses.Guesses.{Guesses}
use Rattle.assess.specs.Guessing.{HasGuesses}
use Rattle.certificate.specs.MadeCert.{IsMade}
use Rattle.grade.specs.declared.figures.Figures.{Figures}
use Rattle.grade.specs.declared.word.Grade.{Grade}
use Rattle.grade.specs.Words.{word_of}
use Rattle.assess.specs.declared.assessment.Verdict.{Verdict}
use Rattle.assess.specs.declared.assessment.Verdict.TheVariants.{Unique, Ambiguous, Undecided}
use Rattle.assess.specs.declared.grading.TheConstants.{GRADE_EVALUATIONS, GRADE_LINES}
use Rattle.second_search.specs.Evaluations.{BothReach}

-- the grade with these figures, splits and depth
abbrev pub grade_of : Figures → ℕ → ℕ → Grade
grade_of figures splits depth =
    record { word = word_of figures splits depth; figures = figures; splits = splits; depth = depth }

-- splits and depth are 0 where no cell is open, and else those of the certificate
pub record IsGradeBy (picture : Rows) (cert : Certificate) (figures : Figures) (grade : Grade) : Type 0 where
  pub guesses : Guesses
  pub settled : figures.«open» ≡ 0 → (guesses.splits ≡ 0) × (guesses.depth ≡ 0)
  pub guessed : (figures.«open» ≡ 0 → ⊥) → HasGuesses picture cert guesses
  pub grade_is : grade ≡ grade_of figures guesses.splits guesses.depth

-- a certificate with exactly the givens that the checker accepts, of a bounded number of lines
pub record IsShortCert (picture : Rows) (givens : List ℕ) (cert : Certificate) : Type 0 where
  pub is_made : IsMade picture givens cert
  pub short : length cert.lines ≤ GRADE_LINES

-- The grade of a puzzle with open cells is beyond the bounds: both trees have evaluated as many lines as they may, or the
-- certificate that was made has too many lines.
abbrev pub IsBeyond : Rows → List ℕ → ℕ → ℕ → Type 0
IsBeyond picture givens before after =
    BothReach GRADE_EVALUATIONS before after
    ⊎ ((cert : Certificate) × (IsMade picture givens cert × (GRADE_LINES < length cert.lines)))

-- the certificate that was found stays, exactly if its number of lines is within the bound
abbrev pub IsIfShort : Option Certificate → Option Certificate → Type 0
IsIfShort None short = short ≡ None
IsIfShort (Some cert) None = GRADE_LINES < length cert.lines
IsIfShort (Some cert) (Some short) = (short ≡ cert) × (length cert.lines ≤ GRADE_LINES)

-- where cells are open, the grade is that of a certificate, or there is neither
abbrev pub IsGradedOpen : Rows → List ℕ → Figures → Option Certificate → Option Grade → Type 0
IsGradedOpen picture givens figures None None = Unit {0}
IsGradedOpen picture givens figures None (Some grade) = ⊥
IsGradedOpen picture givens figures (Some cert) None = ⊥
IsGradedOpen picture givens figures (Some cert) (Some grade) =
    IsShortCert picture givens cert × IsGradeBy picture cert figures grade

-- where no cell is open, the grade is that of the figures, and needs no certificate
pub record IsGraded (picture : Rows) (givens : List ℕ) (figures : Figures) (cert : Option Certificate)
    (grade : Option Grade) : Type 0 where
  pub settled : figures.«open» ≡ 0 → (cert ≡ None) × (grade ≡ Some (grade_of figures 0 0))
  pub opened : (figures.«open» ≡ 0 → ⊥) → IsGradedOpen picture givens figures cert grade

-- only a unique puzzle has a grade
abbrev pub IsGradedIf : Rows → List ℕ → Figures → Verdict → Option Certificate → Option Grade → Type 0
IsGradedIf picture givens figures Unique cert grade = IsGraded picture givens figures cert grade
IsGradedIf picture givens figures (Ambiguous other) cert grade = (cert ≡ None) × (grade ≡ None)
IsGradedIf picture givens figures Undecided cert grade = (cert ≡ None) × (grade ≡ None)
