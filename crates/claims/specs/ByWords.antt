-- What comes of runs whose arguments are known words: each names its files, and no name begins with a hyphen. So the
-- arguments ask for this task and no other; that is proved, and no hypothesis.
use Rattle.std.specs.Prelude.{◌≡◌, ◌≢◌, ◌⊎◌, ◌<◌, ℕ, List, [], ◌∷◌, codes, length, None, Some, Result, Ok}
use Rattle.std.specs.Prelude.{IfErr, OnOk}
use Rattle.std.specs.List.{AllByRecursion}
use Rattle.picture.specs.declared.rgb.Rgb.{Rgb}
use Rattle.picture.specs.Document.{Content}
use Rattle.picture.specs.Rows.{Rows}
use Rattle.ppm_text.specs.Ppm.{ppm_of}
use Rattle.edits.specs.Design.{Design}
use Rattle.cert_text.specs.declared.cert_line.CellNumber.{CellNumber}
use Rattle.session.specs.Refusal.{memory_line}
use Rattle.program_options.specs.Background.{background_of}
use Rattle.program_options.specs.declared.fault.ProgramFault.{ProgramFault}
use Rattle.program_options.specs.declared.fault.ProgramFault.TheVariants.{Memory, NoCertificate, Read, TooLong, Write}
use Rattle.text_check.specs.Check.{IsOnlyPicture, accepted_text}
use Rattle.answers.specs.Open.{OpensFile}
use Rattle.answers.specs.Prove.{HasAnother, ambiguous_text}
use Rattle.command_line.specs.Laws.{IsPlain, default_assessment, default_options}
use Rattle.command_text.specs.Words.{Texts}
use Rattle.program.specs.Endings.{status_after}
use Rattle.program.specs.Files.{Held, Holds}
use Rattle.program.specs.World.{World}
use Rattle.claims.specs.Fit.{IsFitText}
use Rattle.claims.specs.Laws.{background_in}
use Rattle.claims.specs.Solution.{HasOneSolution, IsOnlyPublished}
use Rattle.claims.specs.Line.{HasLine}
use Rattle.claims.specs.Runs.{Accepts, Asked, IsHindered, before_run}

-- ---- the words

abbrev pub work_words : List ℕ → Texts
work_words file = codes "work" ∷ file ∷ []

abbrev pub check_words : List ℕ → List ℕ → Texts
check_words file cert = codes "check" ∷ file ∷ cert ∷ []

abbrev pub check_words_on : List ℕ → List ℕ → List ℕ → Texts
check_words_on colour file cert = codes "check" ∷ codes "--background" ∷ colour ∷ file ∷ cert ∷ []

abbrev pub check_words_with : List ℕ → List ℕ → List ℕ → Texts
check_words_with givens file cert = codes "check" ∷ codes "--givens" ∷ givens ∷ file ∷ cert ∷ []

abbrev pub prove_words : List ℕ → Texts
prove_words file = codes "prove" ∷ file ∷ []

abbrev pub prove_words_complete : List ℕ → Texts
prove_words_complete file = codes "prove" ∷ codes "--complete" ∷ file ∷ []

abbrev pub prove_words_with : List ℕ → List ℕ → Texts
prove_words_with givens file = codes "prove" ∷ codes "--givens" ∷ givens ∷ file ∷ []

abbrev pub assess_words : Texts → Texts
assess_words files = codes "assess" ∷ files

-- ---- one run

-- with status 0, no other picture of that size has the clues of the picture and its colours in the certificate's givens
abbrev pub CheckedAreUnique : Texts → (List ℕ → Held) → ℕ → Type 0
CheckedAreUnique arguments held status =
    (path cert_path file cert : List ℕ) → IsPlain path → IsPlain cert_path
    → arguments ≡ check_words path cert_path → held path ≡ Holds file → held cert_path ≡ Holds cert → status ≡ 0
    → IsOnlyPicture file None None cert

-- with status 0, no other picture of that size has the clues of the picture and its colours in the published cells
abbrev pub PublishedByWords : Texts → (List ℕ → Held) → ℕ → Type 0
PublishedByWords arguments held status =
    (path cert_path givens_path file givens : List ℕ) → IsPlain path → IsPlain cert_path → IsPlain givens_path
    → arguments ≡ check_words_with givens_path path cert_path → held path ≡ Holds file → held givens_path ≡ Holds givens
    → status ≡ 0 → IsOnlyPublished file None givens

-- with status 0, the puzzle in each file is fit to be published without givens
abbrev pub AssessedByWords : Texts → (List ℕ → Held) → ℕ → Type 0
AssessedByWords arguments held status =
    (path : List ℕ) (paths : Texts) → length paths < 18446744073709551615 → IsPlain path → AllByRecursion IsPlain paths
    → arguments ≡ assess_words (path ∷ paths) → status ≡ 0
    → AllByRecursion (λ name. (file : List ℕ) → held name ≡ Holds file → IsFitText file None default_assessment)
    (path ∷ paths)

-- ---- a complete search

-- Why a certificate was not made, although the picture was read: memory ran out; a read failed, or the text could not be
-- written; or the file has more than 16,777,216 bytes.
abbrev pub IsKept : List ℕ → World → World → ProgramFault → Type 0
IsKept file before after fault =
    (fault ≡ Memory) ⊎ ((fault ≡ Write) ⊎ (((fault ≡ Read) × (before.faults < after.faults))
    ⊎ ((fault ≡ TooLong) × (16777216 < length file))))

-- what came of a complete search that was not hindered: `ambiguous` and another picture
abbrev pub IsDenied : Rows → List ℕ → ProgramFault → Type 0
IsDenied rows text fault = (fault ≡ NoCertificate) × ((text ≡ ambiguous_text) × HasAnother rows [])

-- A run that decided. Without an error the picture's clues have one solution; and else there is another one, and
-- `ambiguous` was written, unless the run was hindered.
pub record Decides (a : Asked) (file text : List ℕ) (rows : Rows) (status : ℕ) : Type 0 where
  pub after : World
  pub outcome : Result (Unit {0}) ProgramFault
  pub right_status : status ≡ status_after outcome
  pub unique : OnOk outcome (HasOneSolution file None)
  pub other : IfErr outcome (λ fault. IsDenied rows text fault ⊎ IsKept file (before_run a []) after fault)

-- `prove --complete` decides each picture that is read, so it never writes `undecided` for one
abbrev pub CompleteRunsDecide : Asked → List ℕ → ℕ → Type 0
CompleteRunsDecide a text status =
    (path file : List ℕ) (document : Content) → IsPlain path → a.arguments ≡ prove_words_complete path
    → a.held path ≡ Holds file → ppm_of file None ≡ Ok document → Decides a file text document.rows status

-- ---- runs of which the last one checks what the others wrote

-- Two sessions on one P3 file printed the picture and the certificate, and a third run is asked to check files that hold
-- these texts, with a background that is the document's.
pub record ArePairByWords (writing certifying checking : Asked) (picture cert : List ℕ)
    (written certified : ℕ) : Type 0 where
  pub path : List ℕ
  pub picture_path : List ℕ
  pub cert_path : List ℕ
  pub colour : List ℕ
  pub rgb : Rgb
  pub plain : IsPlain path
  pub plain_picture : IsPlain picture_path
  pub plain_cert : IsPlain cert_path
  pub plain_colour : IsPlain colour
  pub writes : writing.arguments ≡ work_words path
  pub certifies : certifying.arguments ≡ work_words path
  pub checks : checking.arguments ≡ check_words_on colour picture_path cert_path
  pub file : List ℕ
  pub to_write : writing.held path ≡ Holds file
  pub to_certify : certifying.held path ≡ Holds file
  pub names : background_of colour ≡ Some rgb
  pub of_document : (d : Design) → OpensFile file default_options (Ok d) → rgb ≡ background_in d
  pub picture_is_held : checking.held picture_path ≡ Holds picture
  pub cert_is_held : checking.held cert_path ≡ Holds cert
  pub written_well : written ≡ 0
  pub certified_well : certified ≡ 0
  pub picture_is_made : picture ≢ memory_line
  pub cert_is_made : cert ≢ memory_line
  pub not_ambiguous : cert ≢ codes "ambiguous\n"

-- the third run accepts the pair
abbrev pub PairsByWords : Asked → Asked → Asked → List ℕ → List ℕ → List ℕ → ℕ → ℕ → ℕ → Type 0
PairsByWords writing certifying checking picture cert text written certified checked =
    (p : ArePairByWords writing certifying checking picture cert written certified)
    → (d : Design) × (OpensFile p.file default_options (Ok d)
    × Accepts checking picture cert text checked (HasLine d (Some []) (Some text)))

-- A run made a certificate for a P3 file, and a second one is asked to check that file and one that holds the
-- certificate.
pub record IsProvedByWords (proving checking : Asked) (cert : List ℕ) (proved : ℕ) : Type 0 where
  pub path : List ℕ
  pub picture_path : List ℕ
  pub cert_path : List ℕ
  pub plain : IsPlain path
  pub plain_picture : IsPlain picture_path
  pub plain_cert : IsPlain cert_path
  pub proves : (proving.arguments ≡ prove_words path) ⊎ (proving.arguments ≡ prove_words_complete path)
  pub checks : checking.arguments ≡ check_words picture_path cert_path
  pub file : List ℕ
  pub to_prove : proving.held path ≡ Holds file
  pub file_is_held : checking.held picture_path ≡ Holds file
  pub cert_is_held : checking.held cert_path ≡ Holds cert
  pub proved_well : proved ≡ 0

-- the second run accepts the certificate, with the line for one without givens
abbrev pub ProofsByWords : Asked → Asked → List ℕ → List ℕ → ℕ → ℕ → Type 0
ProofsByWords proving checking cert text proved checked =
    (p : IsProvedByWords proving checking cert proved)
    → Accepts checking p.file cert text checked (text ≡ codes "certificate accepted\n")

-- A run made a certificate for a P3 file with the givens that a second file publishes, and another run is asked to check
-- that file, the certificate and these givens.
pub record IsProvedWithByWords (proving checking : Asked) (cert : List ℕ) (proved : ℕ) : Type 0 where
  pub path : List ℕ
  pub givens_path : List ℕ
  pub picture_path : List ℕ
  pub cert_path : List ℕ
  pub published_path : List ℕ
  pub plain : IsPlain path
  pub plain_givens : IsPlain givens_path
  pub plain_picture : IsPlain picture_path
  pub plain_cert : IsPlain cert_path
  pub plain_published : IsPlain published_path
  pub proves : proving.arguments ≡ prove_words_with givens_path path
  pub checks : checking.arguments ≡ check_words_with published_path picture_path cert_path
  pub file : List ℕ
  pub givens : List ℕ
  pub to_prove : proving.held path ≡ Holds file
  pub given_to_prove : proving.held givens_path ≡ Holds givens
  pub file_is_held : checking.held picture_path ≡ Holds file
  pub cert_is_held : checking.held cert_path ≡ Holds cert
  pub givens_are_held : checking.held published_path ≡ Holds givens
  pub proved_well : proved ≡ 0

-- why a check of these three files does not accept: as for two, or the third has more than 16,777,216 bytes
abbrev pub IsHinderedWith : List ℕ → List ℕ → List ℕ → World → World → ProgramFault → Type 0
IsHinderedWith picture cert givens before after fault =
    IsHindered picture cert before after fault ⊎ ((fault ≡ TooLong) × (16777216 < length givens))

-- a line of a check that accepts
abbrev pub IsAccepting : List ℕ → Type 0
IsAccepting text = (cells : List CellNumber) × (text ≡ accepted_text cells)

-- a run on these three files accepts, unless it is hindered
pub record AcceptsWith (a : Asked) (picture cert givens text : List ℕ) (status : ℕ) : Type 0 where
  pub after : World
  pub outcome : Result (Unit {0}) ProgramFault
  pub right_status : status ≡ status_after outcome
  pub accepts : OnOk outcome (IsAccepting text)
  pub hindered : IfErr outcome (IsHinderedWith picture cert givens (before_run a []) after)

-- the second run accepts the certificate with the same givens
abbrev pub GivenProofsByWords : Asked → Asked → List ℕ → List ℕ → ℕ → ℕ → Type 0
GivenProofsByWords proving checking cert text proved checked =
    (p : IsProvedWithByWords proving checking cert proved) → AcceptsWith checking p.file cert p.givens text checked
