-- What is worked out of a document as it is, with nothing kept: the path of line logic, and whether it is fit to be
-- published.
use Rattle.std.specs.Prelude.{◌≡◌, ℕ, List, Option}
use Rattle.line_facts.specs.Masks.{Masks}
use Rattle.picture.specs.declared.document.Document.{Document}
use Rattle.clues.specs.ClueBook.{clues_of}
use Rattle.edits.specs.Design.{Design, design_of}
use Rattle.assess.specs.declared.assessment.Assessment.{Assessment}
use Rattle.assess.specs.Assessed.{IsAssessment}
use Rattle.assess.specs.Calls.{AreFewInAll}
use Rattle.grade.specs.declared.pathing.Path.{Path}
use Rattle.grade.specs.Figures.{open_cells}
use Rattle.grade.specs.Looks.{Look}
use Rattle.grade.specs.Paths as paths
use Rattle.grade.specs.Runs.{IsRun}
use Rattle.grade.specs.Starts.{IsStart}
use Rattle.live_audit.specs.Bench.{AreGivenCells}

-- a document with these parts, and just its givens
pub record IsDocumentOf (d : Design) (document : Document) : Type 0 where
  pub parts : design_of document ≡ d
  pub givens : AreGivenCells d document.givens

-- it holds of such a document
abbrev pub HoldsOf : Design → (Document → Type 0) → Type 0
HoldsOf d Is = (document : Document) × (IsDocumentOf d document × Is document)

-- The looks of line logic on a document that excluded something, in order, each with what it needs, and how many cells
-- are open at the end. It starts with the colours that clues, background and givens allow.
pub record IsPath (path : Path) (document : Document) : Type 0 where
  pub start : Masks
  pub is_start : IsStart (clues_of document.picture) document.givens document.picture start
  pub looks : List Look
  pub is_run : IsRun (clues_of document.picture) start looks path.facts
  pub path_is : paths.IsPath (clues_of document.picture) looks path.looks.items
  pub open_is : path.«open» ≡ open_cells path.facts

abbrev pub IsPathOf : Design → Path → Type 0
IsPathOf d path = HoldsOf d (IsPath path)

-- An assessment of the document under an allowance. It starts with nothing known of the parts.
abbrev pub IsAssessmentOf : Design → Option ℕ → Assessment → Type 0
IsAssessmentOf d allowance found = HoldsOf d (λ document. IsAssessment document allowance found)

-- it calls the engine no more often than an assessment of the document does under the allowance
abbrev pub AreFewToAssess : Design → Option ℕ → ℕ → ℕ → Type 0
AreFewToAssess d allowance before after =
    HoldsOf d (λ document. AreFewInAll document.picture document.givens allowance before after)
