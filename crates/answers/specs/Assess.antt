-- What the assessment of a puzzle gives for the texts of its files.
use Rattle.std.specs.Prelude.{◌≡◌, ◌⊎◌, ℕ, Bool, true, false, List, length, Option, None, Some, Result, Ok, Err}
use Rattle.picture.specs.declared.document.Document.{Document}
use Rattle.picture.specs.declared.rgb.Rgb.{Rgb}
use Rattle.picture.specs.Rows.{Rows, width_of}
use Rattle.ppm_text.specs.Ppm.{ppm_of}
use Rattle.non_text.specs.declared.fault.NonFault.{NonFault}
use Rattle.non_text.specs.declared.non_puzzle.NonPuzzle.{NonPuzzle}
use Rattle.non_text.specs.Puzzle.{non_of}
use Rattle.cert_text.specs.declared.cert_line.CellNumber.{CellNumber}
use Rattle.cert_text.specs.declared.fault.CertFault.{CertFault}
use Rattle.cert_text.specs.Cert.{Certificate}
use Rattle.cert_text.specs.Reading.{cert_of}
use Rattle.text_check.specs.declared.givens_fault.GivensFault.{GivensFault}
use Rattle.text_check.specs.Givens.{IsSetOf, cells_of}
use Rattle.assess.specs.declared.assessment.Assessment.{Assessment}
use Rattle.assess.specs.Assessed.{IsAssessment, is_fit}
use Rattle.assess.specs.AssessedBy.{IsAssessmentBy, IsRefused}
use Rattle.report_text.specs.AssessmentText.{assessment_text}
use Rattle.report_text.specs.Report.{palette_text}
use Rattle.edits.specs.Design.{Design, design_of}
use Rattle.program_options.specs.declared.assessing.AssessOptions.{AssessOptions}
use Rattle.program_options.specs.declared.fault.ProgramFault.{ProgramFault}
use Rattle.program_options.specs.declared.fault.ProgramFault.TheVariants.{Givens, Memory, NoGoal}
use Rattle.program_options.specs.Faults.{cert_fault_of, non_fault_of}
use Rattle.answers.specs.declared.assessing.Block.{Block}
use Rattle.answers.specs.Open.{black_on_white}
use Rattle.answers.specs.Run.{after_edit}

-- ---- the puzzle

abbrev pub goal_or : Option Rows → Result Design ProgramFault
goal_or None = Err NoGoal
goal_or (Some goal) = Ok (black_on_white goal)

abbrev pub goal_read : Result NonPuzzle NonFault → Result Design ProgramFault
goal_read (Err fault) = Err (non_fault_of fault)
goal_read (Ok puzzle) = goal_or puzzle.goal

-- the goal of a .non text in black on white, or why there is none
abbrev pub IsGoal : List ℕ → Result Design ProgramFault → Type 0
IsGoal text opened = opened ≡ goal_read (non_of text)

abbrev pub OpensAsPuzzle : Bool → List ℕ → Option Rgb → Result Design ProgramFault → Type 0
OpensAsPuzzle true file background opened = IsGoal file opened
OpensAsPuzzle false file background opened = opened ≡ after_edit None (ppm_of file background)

-- the puzzle of a file, or why that is refused
abbrev pub OpensPuzzle : List ℕ → AssessOptions → Result Design ProgramFault → Type 0
OpensPuzzle file options opened = OpensAsPuzzle options.non file options.background opened

-- ---- the givens that are published

-- what a text of givens names for a puzzle that was read
abbrev pub cells_for : Design → List ℕ → Result (List CellNumber) GivensFault
cells_for d text = cells_of (length d.rows) (width_of d.rows) text

-- a document with the cells of a set as givens, in place of its own
pub record IsGivenBy (d : Design) (text : List ℕ) (document : Document) : Type 0 where
  pub cells : List CellNumber
  pub reads : cells_for d text ≡ Ok cells
  pub givens : IsSetOf document.givens cells
  pub palette : document.palette ≡ d.colours
  pub picture : document.picture ≡ d.rows

-- the document of a design, with its own givens or with those of a text
abbrev pub IsPublishedAs : Design → Option (List ℕ) → Document → Type 0
IsPublishedAs d None document = design_of document ≡ d
IsPublishedAs d (Some text) document = IsGivenBy d text document

-- the text of the givens is refused
abbrev pub RefusesGivens : Design → Option (List ℕ) → ProgramFault → Type 0
RefusesGivens d None e = ⊥
RefusesGivens d (Some text) e = (fault : GivensFault) × ((cells_for d text ≡ Err fault) × (e ≡ Givens fault))

-- the puzzle of a file with the givens that are published, or why there is none, or out of memory
abbrev pub Publishes : List ℕ → Option (List ℕ) → AssessOptions → Result Document ProgramFault → Type 0
Publishes file givens options (Ok document) =
    (d : Design) × (OpensPuzzle file options (Ok d) × IsPublishedAs d givens document)
Publishes file givens options (Err e) = (e ≡ Memory) ⊎ (OpensPuzzle file options (Err e)
    ⊎ ((d : Design) × (OpensPuzzle file options (Ok d) × RefusesGivens d givens e)))

-- ---- what is found

-- by a certificate that was read: it proves that there is one solution, or is refused by the checker
abbrev pub FindsByCert : Document → Certificate → Result Assessment ProgramFault → Type 0
FindsByCert document cert (Ok found) = IsAssessmentBy document cert found
FindsByCert document cert (Err e) =
    (fault : CertFault) × (IsRefused document cert fault × (e ≡ cert_fault_of fault))

-- by the text of a certificate, which may be refused by its reader
abbrev pub FindsBy : Document → Result Certificate CertFault → Result Assessment ProgramFault → Type 0
FindsBy document (Ok cert) r = FindsByCert document cert r
FindsBy document (Err fault) r = r ≡ Err (cert_fault_of fault)

-- What is found of a document: under an allowance, or by the text of a certificate. Or memory ran out.
abbrev pub Finds : Document → Option (List ℕ) → AssessOptions → Result Assessment ProgramFault → Type 0
Finds document None options (Ok found) = IsAssessment document options.allowance found
Finds document None options (Err e) = e ≡ Memory
Finds document (Some text) options r = (r ≡ Err Memory) ⊎ FindsBy document (cert_of text) r

-- ---- the block

-- a puzzle's block: its assessment as text, which colour each letter is, and whether it is fit to be published
pub record IsBlock (file : List ℕ) (givens cert : Option (List ℕ)) (options : AssessOptions) (block : Block)
    : Type 0 where
  pub document : Document
  pub publishes : Publishes file givens options (Ok document)
  pub found : Assessment
  pub finds : Finds document cert options (Ok found)
  pub text : block.text.items ≡ assessment_text found
  pub palette : block.palette.items ≡ palette_text document.palette
  pub fit : block.is_fit ≡ is_fit found

-- the certificate of a puzzle is refused
pub record RefusesCert (file : List ℕ) (givens cert : Option (List ℕ)) (options : AssessOptions) (e : ProgramFault)
    : Type 0 where
  pub document : Document
  pub publishes : Publishes file givens options (Ok document)
  pub finds : Finds document cert options (Err e)

-- What the assessment of a puzzle gives for the texts of its file, of its givens and of its certificate: its block; or
-- the error of the first that refuses, or out of memory.
abbrev pub Assesses : List ℕ → Option (List ℕ) → Option (List ℕ) → AssessOptions → Result Block ProgramFault → Type 0
Assesses file givens cert options (Ok block) = IsBlock file givens cert options block
Assesses file givens cert options (Err e) =
    (e ≡ Memory) ⊎ (Publishes file givens options (Err e) ⊎ RefusesCert file givens cert options e)
