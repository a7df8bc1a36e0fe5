-- An assessment as text.
use Rattle.std.specs.Prelude.{ℕ, ◌+◌, ◌%◌, Bool, List, [], ◌∷◌, ◌++◌, Option, None, Some, codes, if◌then◌else◌}
use Rattle.std.specs.List.{flat_map}
use Rattle.trail.specs.declared.cell.Cell.{Cell}
use Rattle.flaws.specs.declared.alike.Alike.{Alike}
use Rattle.grade.specs.declared.figures.Figures.{Figures}
use Rattle.grade.specs.declared.word.Grade.{Grade}
use Rattle.report_text.specs.GradeText.{grade_text, unknown_text}
use Rattle.report_text.specs.Numbers.{line_text}
use Rattle.report_text.specs.Shown.{letter, picture_text}
use Rattle.assess.specs.declared.assessment.Assessment.{Assessment}
use Rattle.assess.specs.declared.assessment.Verdict.{Verdict}
use Rattle.assess.specs.declared.assessment.Verdict.TheVariants.{Unique, Ambiguous, Undecided}
use Rattle.assess.specs.Assessed.{is_fit}

-- the verdict, and the rows of the other picture if there is one
abbrev pub verdict_text : Verdict → List ℕ
verdict_text Unique = codes "unique\n"
verdict_text (Ambiguous other) = codes "ambiguous\n" ++ picture_text other
verdict_text Undecided = codes "undecided\n"

-- the size, and how many colours, givens and open cells there are
abbrev pub counts_text : Assessment → List ℕ
counts_text found = line_text (codes "size") (found.height ∷ found.width ∷ [])
    ++ (line_text (codes "colours") (found.colours ∷ [])
    ++ (line_text (codes "givens") (found.givens ∷ [])
    ++ line_text (codes "open") (found.figures.«open» ∷ [])))

abbrev pub grade_or_unknown : Figures → Option Grade → List ℕ
grade_or_unknown figures (Some grade) = grade_text grade
grade_or_unknown figures None = unknown_text figures

-- the grade, of a puzzle that is unique
abbrev pub rating_of : Verdict → Figures → Option Grade → List ℕ
rating_of Unique figures grade = grade_or_unknown figures grade
rating_of (Ambiguous other) figures grade = []
rating_of Undecided figures grade = []

abbrev pub rating_text : Assessment → List ℕ
rating_text found = rating_of found.verdict found.figures found.grade

-- the line of a flaw, if there is one
abbrev pub flaw_if : Bool → List ℕ → List ℕ
flaw_if is_there words = if is_there then line_text words [] else []

-- the first given that is not needed, by its row and column, from 1
abbrev pub spare_text : Option Cell → List ℕ
spare_text None = []
spare_text (Some cell) = line_text (codes "flaw given") ((cell.row + 1) ∷ (cell.col + 1) ∷ [])

-- two colours that look alike, by their letters, of sixteen
unfoldable pub alike_text : Alike → List ℕ
alike_text pair = codes "flaw alike " ++ letter (pair.first % 16) ∷ 32 ∷ letter (pair.second % 16) ∷ 10 ∷ []

abbrev pub flaws_text : Assessment → List ℕ
flaws_text found = flaw_if found.is_blank (codes "flaw blank")
    ++ (flaw_if found.lacks_background (codes "flaw background")
    ++ (spare_text found.spare ++ flat_map alike_text found.alike.items))

abbrev pub word_text : Bool → List ℕ
word_text is_fit = if is_fit then codes "fit\n" else codes "unfit\n"

-- a line for each thing found; the last says whether the puzzle is fit to be published
abbrev pub assessment_text : Assessment → List ℕ
assessment_text found = verdict_text found.verdict ++ (counts_text found ++ (rating_text found
    ++ (flaws_text found ++ word_text (is_fit found))))
