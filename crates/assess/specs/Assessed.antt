-- What an assessment says of a puzzle, and whether that is fit to be published.
use Rattle.std.specs.Prelude.{◌≡◌, ◌&&◌, ◌||◌, ◌==◌, ℕ, Bool, true, false, List, length, Option, None, count_by, is_some, map, not}
use Rattle.std.specs.List.{range_with_len}
use Rattle.picture.specs.declared.document.Document.{Document}
use Rattle.picture.specs.CellSet.{cell_count}
use Rattle.picture.specs.Rows.{width_of, Rows}
use Rattle.flaws.specs.Alike.{alike_pairs}
use Rattle.flaws.specs.Cells.{has_colour, is_painted}
use Rattle.trail.specs.declared.cell.Cell.{Cell}
use Rattle.assess.specs.declared.assessment.Assessment.{Assessment}
use Rattle.assess.specs.declared.assessment.Verdict.{Verdict}
use Rattle.assess.specs.declared.assessment.Verdict.TheVariants.{Unique, Ambiguous, Undecided}
use Rattle.assess.specs.Judging.{IsVerdict}
use Rattle.assess.specs.Grades.{IsGradedIf}
use Rattle.assess.specs.Settling.{HasFigures}
use Rattle.assess.specs.Spares.{IsSpare}

-- how many of the first colours cells have
abbrev pub colours_below : Rows → ℕ → ℕ
colours_below picture n = count_by (λ has. has) (map (λ k. has_colour k picture) (range_with_len 0 n))

-- how many colours cells have
unfoldable pub colour_count : Rows → ℕ
colour_count picture = colours_below picture 16

abbrev pub is_unique : Verdict → Bool
is_unique Unique = true
is_unique (Ambiguous other) = false
is_unique Undecided = false

-- the puzzle is blank, or no cell has the background, or a given is not needed, or colours look alike
abbrev pub has_flaw : Assessment → Bool
has_flaw found =
    found.is_blank || (found.lacks_background || (is_some found.spare || not (length found.alike.items == 0)))

-- fit to be published: unique, and without a flaw
abbrev pub is_fit : Assessment → Bool
is_fit found = is_unique found.verdict && not (has_flaw found)

-- a given that is not needed is looked for in a puzzle that is unique
abbrev pub IsSpareIf : Rows → List ℕ → Verdict → Option Cell → Type 0
IsSpareIf picture givens Unique spare = IsSpare picture givens spare
IsSpareIf picture givens (Ambiguous other) spare = spare ≡ None
IsSpareIf picture givens Undecided spare = spare ≡ None

-- what is found of a document without a search
pub record IsDescribed (document : Document) (found : Assessment) : Type 0 where
  pub height : found.height ≡ length document.picture
  pub width : found.width ≡ width_of document.picture
  pub colours : found.colours ≡ colour_count document.picture
  pub givens : found.givens ≡ cell_count document.givens
  pub figures : HasFigures document.picture document.givens found.figures
  pub blank : found.is_blank ≡ not (is_painted document.picture)
  pub background : found.lacks_background ≡ not (has_colour 0 document.picture)
  pub alike : found.alike.items ≡ alike_pairs document.palette document.picture

-- an assessment by a search under an allowance
pub record IsAssessment (document : Document) (allowance : Option ℕ) (found : Assessment) : Type 0 where
  pub described : IsDescribed document found
  pub verdict : IsVerdict document.picture document.givens allowance found.verdict
  pub graded : IsGradedIf document.picture document.givens found.figures found.verdict found.cert found.grade
  pub spare : IsSpareIf document.picture document.givens found.verdict found.spare
