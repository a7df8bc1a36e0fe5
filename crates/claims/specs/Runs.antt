-- Runs of the program, of which a later one checks what earlier ones wrote.
use Rattle.std.specs.Prelude.{◌≡◌, ◌≢◌, ◌⊎◌, ℕ, ◌<◌, false, List, [], codes, Option, None, Some, Result, Ok, Err}
use Rattle.std.specs.Prelude.{IfErr, OnOk, length, map, option_map, string_bytes}
use Rattle.std.specs.List.{AllByRecursion}
use Rattle.std.proofs.Common.{String, Global}
use Rattle.picture.specs.declared.rgb.Rgb.{Rgb}
use Rattle.edits.specs.Design.{Design}
use Rattle.session.specs.Refusal.{memory_line}
use Rattle.program_options.specs.declared.fault.ProgramFault.{ProgramFault}
use Rattle.program_options.specs.declared.fault.ProgramFault.TheVariants.{Memory, Read, TooLong, Write}
use Rattle.program_options.specs.declared.assessing.AssessOptions.{AssessOptions}
use Rattle.program_options.specs.declared.options.Options.{Options}
use Rattle.answers.specs.Open.{OpensFile}
use Rattle.command_line.specs.declared.words.Task.{Task}
use Rattle.command_line.specs.declared.words.Task.TheVariants.{Assess, Check, Prove, Work}
use Rattle.command_text.specs.Words.{Texts}
use Rattle.program.specs.Endings.{status_after}
use Rattle.program.specs.Files.{Held, Holds}
use Rattle.program.specs.Run.{AnswersAll, IsTask, texts}
use Rattle.program.specs.World.{World, world}
use Rattle.claims.specs.Fit.{IsFitText}
use Rattle.claims.specs.Laws.{background_in}
use Rattle.claims.specs.Line.{HasLine}
use Rattle.claims.specs.Solution.{IsOnlyPublished}

-- what a run is asked: its arguments, what names hold, and what was asked of the files before
pub record Asked : Type 0 where
  pub arguments : Texts
  pub held : List ℕ → Held
  pub opened : Texts
  pub faults : ℕ

abbrev pub asked_of : List (String Global) → (List ℕ → Held) → Texts → ℕ → Asked
asked_of arguments held opened faults =
    record { arguments = map (λ text. string_bytes text) arguments; held = held; opened = opened; faults = faults }

-- the world before a run with this input that has written nothing yet
abbrev pub before_run : Asked → List ℕ → World
before_run a input = world a.opened a.faults (Some input) (Some [])

-- A run with this whole input wrote this text, and ended with this status. What came of it is what `run` promises.
pub record IsRun (a : Asked) (input text : List ℕ) (status : ℕ) : Type 0 where
  pub after : World
  pub output : after.output ≡ Some text
  pub outcome : Result (Unit {0}) ProgramFault
  pub right_status : status ≡ status_after outcome
  pub answers : AnswersAll a.arguments a.held (before_run a input) after outcome

-- the arguments are not refused, and each task that they ask for is this one
pub record AskOnly (arguments : Texts) (Is : Task → Type 0) : Type 0 where
  pub taken : (fault : ProgramFault) → IsTask arguments (Err fault) → fault ≡ Memory
  pub task : (task : Task) → IsTask arguments (Ok task) → Is task

-- ---- the tasks

abbrev pub IsWorkOn : List ℕ → Options → Task → Type 0
IsWorkOn path options (Work file chosen) = (file.now ≡ path) × (chosen ≡ options)
IsWorkOn path options _ = ⊥

abbrev pub IsCheckOn : List ℕ → List ℕ → Option Rgb → Task → Type 0
IsCheckOn path cert_path background (Check file cert None chosen) =
    (file.now ≡ path) × ((cert.now ≡ cert_path) × (chosen ≡ background))
IsCheckOn path cert_path background _ = ⊥

-- the same with a file of the givens that are published
abbrev pub IsCheckWith : List ℕ → List ℕ → List ℕ → Option Rgb → Task → Type 0
IsCheckWith path cert_path givens_path background (Check file cert (Some givens) chosen) =
    (file.now ≡ path) × ((cert.now ≡ cert_path) × ((givens.now ≡ givens_path) × (chosen ≡ background)))
IsCheckWith path cert_path givens_path background _ = ⊥

abbrev pub IsProveOn : List ℕ → Option Rgb → Task → Type 0
IsProveOn path background (Prove file None options) = (file.now ≡ path) × (options.background ≡ background)
IsProveOn path background _ = ⊥

-- ---- a pair that is published

-- Two sessions on one P3 file with the same options printed the picture and the certificate, and a third run is
-- asked to check files that hold these texts, with the document's background.
pub record ArePrintedByRuns (writing certifying checking : Asked) (picture cert : List ℕ)
    (written certified : ℕ) : Type 0 where
  pub path : List ℕ
  pub options : Options
  pub file : List ℕ
  pub ppm : options.non ≡ false
  pub writes : AskOnly writing.arguments (IsWorkOn path options)
  pub certifies : AskOnly certifying.arguments (IsWorkOn path options)
  pub to_write : writing.held path ≡ Holds file
  pub to_certify : certifying.held path ≡ Holds file
  pub picture_path : List ℕ
  pub cert_path : List ℕ
  pub background : Option Rgb
  pub of_document : (d : Design) → OpensFile file options (Ok d) → background ≡ Some (background_in d)
  pub checks : AskOnly checking.arguments (IsCheckOn picture_path cert_path background)
  pub picture_is_held : checking.held picture_path ≡ Holds picture
  pub cert_is_held : checking.held cert_path ≡ Holds cert
  pub written_well : written ≡ 0
  pub certified_well : certified ≡ 0
  pub picture_is_made : picture ≢ memory_line
  pub cert_is_made : cert ≢ memory_line
  pub not_ambiguous : cert ≢ codes "ambiguous\n"

-- Why a check of what was printed does not accept it: memory ran out; a read failed, or the line could not be
-- written; or one of the files has more than 16,777,216 bytes.
abbrev pub IsHindered : List ℕ → List ℕ → World → World → ProgramFault → Type 0
IsHindered picture cert before after fault =
    (fault ≡ Memory) ⊎ ((fault ≡ Write) ⊎ (((fault ≡ Read) × (before.faults < after.faults))
    ⊎ ((fault ≡ TooLong) × ((16777216 < length picture) ⊎ (16777216 < length cert)))))

-- A run on these two files accepts, and `Is` says what it writes, unless it is hindered. The status is that of its
-- outcome, so 0 exactly if it accepts.
pub record Accepts (a : Asked) (picture cert : List ℕ) (text : List ℕ) (status : ℕ) (Is : Type 0) : Type 0 where
  pub after : World
  pub outcome : Result (Unit {0}) ProgramFault
  pub right_status : status ≡ status_after outcome
  pub accepts : OnOk outcome Is
  pub hindered : IfErr outcome (IsHindered picture cert (before_run a []) after)

-- the third run accepts the pair: its line has the number of givens of the document that the file is opened as
abbrev pub PairsAreAccepted : Asked → Asked → Asked → List ℕ → List ℕ → List ℕ → ℕ → ℕ → ℕ → Type 0
PairsAreAccepted writing certifying checking picture cert text written certified checked =
    (p : ArePrintedByRuns writing certifying checking picture cert written certified)
    → (d : Design) × (OpensFile p.file p.options (Ok d)
    × Accepts checking picture cert text checked (HasLine d (Some []) (Some text)))

-- ---- a certificate that is made

-- A run made a certificate for a P3 file, in any of its forms, and a second one is asked to check that file and one
-- that holds the certificate.
pub record IsProvedByRun (proving checking : Asked) (cert : List ℕ) (proved : ℕ) : Type 0 where
  pub path : List ℕ
  pub file : List ℕ
  pub background : Option Rgb
  pub proves : AskOnly proving.arguments (IsProveOn path background)
  pub to_prove : proving.held path ≡ Holds file
  pub picture_path : List ℕ
  pub cert_path : List ℕ
  pub checks : AskOnly checking.arguments (IsCheckOn picture_path cert_path background)
  pub file_is_held : checking.held picture_path ≡ Holds file
  pub cert_is_held : checking.held cert_path ≡ Holds cert
  pub proved_well : proved ≡ 0

-- the second run accepts the certificate, with the line for one without givens
abbrev pub ProofsAreAccepted : Asked → Asked → List ℕ → List ℕ → ℕ → ℕ → Type 0
ProofsAreAccepted proving checking cert text proved checked =
    (p : IsProvedByRun proving checking cert proved)
    → Accepts checking p.file cert text checked (text ≡ codes "certificate accepted\n")

-- ---- a check with the givens that are published

-- Where the arguments ask for such a check alone, and the names hold these texts, status 0 means that no other picture
-- of that size has the picture's clues and its colours in the published cells.
abbrev pub PublishedAreUnique : Texts → (List ℕ → Held) → ℕ → Type 0
PublishedAreUnique arguments held status =
    (path cert_path givens_path : List ℕ) (background : Option Rgb) (file givens : List ℕ)
    → AskOnly arguments (IsCheckWith path cert_path givens_path background)
    → held path ≡ Holds file → held givens_path ≡ Holds givens → status ≡ 0 → IsOnlyPublished file background givens

-- ---- assessments

-- assessments of the puzzles in files of these names, with these files beside them
abbrev pub IsAssessOn : Texts → Option (List ℕ) → Option (List ℕ) → AssessOptions → Task → Type 0
IsAssessOn paths givens_path cert_path options (Assess files chosen givens cert) =
    (texts files.items ≡ paths)
    × ((option_map (λ path. path.now) givens ≡ givens_path)
    × ((option_map (λ path. path.now) cert ≡ cert_path) × (chosen ≡ options)))
IsAssessOn paths givens_path cert_path options _ = ⊥

-- the text that a name holds, if there is one
abbrev pub HoldsIf : (List ℕ → Held) → Option (List ℕ) → Option (List ℕ) → Type 0
HoldsIf held None text = text ≡ None
HoldsIf held (Some path) None = ⊥
HoldsIf held (Some path) (Some text) = held path ≡ Holds text

-- Where the arguments ask for assessments alone, and the names hold these texts, status 0 means that the puzzle in each
-- file is fit to be published with these givens.
abbrev pub AssessedAreFit : Texts → (List ℕ → Held) → ℕ → Type 0
AssessedAreFit arguments held status =
    (paths : Texts) (givens_path cert_path : Option (List ℕ)) (options : AssessOptions) (givens cert : Option (List ℕ))
    → AskOnly arguments (IsAssessOn paths givens_path cert_path options)
    → HoldsIf held givens_path givens → HoldsIf held cert_path cert → status ≡ 0
    → AllByRecursion (λ path. (file : List ℕ) → held path ≡ Holds file → IsFitText file givens options) paths
