-- What comes of a task, by what the files that it names hold.
use Rattle.std.specs.Prelude.{◌≡◌, ◌⊎◌, ℕ, List, [], ◌∷◌, ◌++◌, Option, None, Some, Result, Ok, Err, IfErr, IfSome}
use Rattle.std.specs.Prelude.{OnOk, string_bytes}
use Rattle.std.specs.Borrow.{Bor}
use Rattle.std.specs.Io.KnownBytes.{Appends, Keeps}
use Rattle.picture.specs.declared.rgb.Rgb.{Rgb}
use Rattle.picture.specs.Writers.{AppendsFront}
use Rattle.live_audit.specs.Bench.{Seen}
use Rattle.command_text.specs.declared.session_fault.SessionFault.{SessionFault}
use Rattle.session.specs.Session.{Runs}
use Rattle.program_options.specs.declared.fault.ProgramFault.{ProgramFault}
use Rattle.program_options.specs.declared.fault.ProgramFault.TheVariants.{Memory, Write}
use Rattle.program_options.specs.declared.options.Options.{Options}
use Rattle.program_options.specs.declared.options.ProveOptions.{ProveOptions}
use Rattle.text_check.specs.Check.{IsLemmaProofOf, IsOnlyPicture, IsProofOf}
use Rattle.answers.specs.Check.{IsCheckOf, WritesBy}
use Rattle.answers.specs.Prove.{IsProveOf, WritesProof}
use Rattle.program_options.specs.Faults.{session_fault_of}
use Rattle.answers.specs.Open.{OpensFile}
use Rattle.answers.specs.Run.{Writes, shown}
use Rattle.answers.specs.Start.{IsStarted}
use Rattle.command_line.specs.declared.words.Task.{Task}
use Rattle.command_line.specs.declared.words.Task.TheVariants.{Clues, Work, Check, Prove, Assess, Help}
use Rattle.program.specs.Assess.{AssessesNamed}
use Rattle.program.specs.Files.{HasFailed, Held, IsContent, IsUnread}
use Rattle.program.specs.World.{IsStopped, World}

-- ---- a session

-- A session that ended this way ran on a bench that was started with the file.
pub record RunsOn (had have held holds : Option (List ℕ)) (file : List ℕ) (options : Options)
    (ended : Result (Unit {0}) SessionFault) : Type 0 where
  pub fresh : Seen
  pub started : IsStarted file options fresh
  pub last : Seen
  pub runs : Runs had have held holds fresh last ended

-- What comes of the work: a session ran; or the file was refused or memory ran out, and nothing was read or written.
abbrev pub Works : Option (List ℕ) → Option (List ℕ) → Option (List ℕ) → Option (List ℕ) → List ℕ → Options
    → Result (Unit {0}) ProgramFault → Type 0
Works had have held holds file options (Ok done) = RunsOn had have held holds file options (Ok done)
Works had have held holds file options (Err fault) =
    ((ended : SessionFault) × ((fault ≡ session_fault_of ended) × RunsOn had have held holds file options (Err ended)))
    ⊎ (((fault ≡ Memory) ⊎ OpensFile file options (Err fault)) × (Keeps had have × Keeps held holds))

-- ---- the clues of the input

-- the clues of the picture that is the whole input were written, or its error is returned
pub record IsListed (before after : World) (r : Result (Unit {0}) ProgramFault) : Type 0 where
  pub bytes : List ℕ
  pub is_input : IfSome before.input (λ input. bytes ≡ input)
  pub names : after.opened ≡ before.opened
  pub faultless : after.faults ≡ before.faults
  pub writes : Writes before.output after.output r (shown bytes None)

-- the input could not be read to its end, and nothing was written; the error is `Read` exactly if a read failed
pub record IsLeft (before after : World) (r : Result (Unit {0}) ProgramFault) : Type 0 where
  pub fault : ProgramFault
  pub is : r ≡ Err fault
  pub unread : IsUnread before.input fault
  pub cause : HasFailed before.faults after.faults fault
  pub names : after.opened ≡ before.opened
  pub output : Keeps before.output after.output

-- The clues of the whole input are written, or its error is returned; or the input could not be read to its end.
abbrev pub ShowsClues : World → World → Result (Unit {0}) ProgramFault → Type 0
ShowsClues before after r = IsListed before after r ⊎ IsLeft before after r

-- ---- what the words ask for

-- a text is written, or, where a write fails, a prefix of it
abbrev pub Sends : Option (List ℕ) → Option (List ℕ) → List ℕ → Result (Unit {0}) ProgramFault → Type 0
Sends held holds text (Ok done) = Appends held holds text
Sends held holds text (Err fault) = (fault ≡ Write) × AppendsFront held holds text

-- a session on the file of a name, by its bytes
pub record IsWorked (held : Held) (path : List ℕ) (options : Options) (before after : World)
    (r : Result (Unit {0}) ProgramFault) : Type 0 where
  pub file : List ℕ
  pub content : IsContent held file
  pub names : after.opened ≡ before.opened ++ path ∷ []
  pub faultless : after.faults ≡ before.faults
  pub works : Works before.input after.input before.output after.output file options r

-- the picture's file was read, but the second one, that of the certificate or of the givens, could not be
pub record IsHalfRead (picture second : Held) (path second_path : List ℕ) (before after : World)
    (r : Result (Unit {0}) ProgramFault) : Type 0 where
  pub file : List ℕ
  pub content : IsContent picture file
  pub stopped : IsStopped second (path ∷ second_path ∷ []) before after r

-- the files of the picture and the certificate were read, but that of the givens could not be
pub record IsWithoutGivens (picture certificate published : Held) (path cert_path givens_path : List ℕ)
    (before after : World) (r : Result (Unit {0}) ProgramFault) : Type 0 where
  pub file : List ℕ
  pub cert : List ℕ
  pub content : IsContent picture file
  pub cert_content : IsContent certificate cert
  pub stopped : IsStopped published (path ∷ cert_path ∷ givens_path ∷ []) before after r

-- The check of two files by their bytes, the picture's first. The input is left alone.
pub record IsChecked (picture certificate : Held) (path cert_path : List ℕ) (background : Option Rgb)
    (before after : World) (r : Result (Unit {0}) ProgramFault) : Type 0 where
  pub file : List ℕ
  pub cert : List ℕ
  pub content : IsContent picture file
  pub cert_content : IsContent certificate cert
  pub names : after.opened ≡ before.opened ++ path ∷ cert_path ∷ []
  pub faultless : after.faults ≡ before.faults
  pub input : Keeps before.input after.input
  pub writes : WritesBy before.output after.output r (IsCheckOf file background None cert)
  pub only : IsProofOf file background None cert → IfErr r (λ e. (e ≡ Memory) ⊎ (e ≡ Write))
  pub only_lemmas : IsLemmaProofOf file background None cert → IfErr r (λ e. (e ≡ Memory) ⊎ (e ≡ Write))
  pub unique : OnOk r (IsOnlyPicture file background None cert)

-- The check of three files by their bytes, of which the last names the givens that are published. The input is left
-- alone.
pub record IsCheckedWith (picture certificate published : Held) (path cert_path givens_path : List ℕ)
    (background : Option Rgb) (before after : World) (r : Result (Unit {0}) ProgramFault) : Type 0 where
  pub file : List ℕ
  pub cert : List ℕ
  pub givens : List ℕ
  pub content : IsContent picture file
  pub cert_content : IsContent certificate cert
  pub givens_content : IsContent published givens
  pub names : after.opened ≡ before.opened ++ path ∷ cert_path ∷ givens_path ∷ []
  pub faultless : after.faults ≡ before.faults
  pub input : Keeps before.input after.input
  pub writes : WritesBy before.output after.output r (IsCheckOf file background (Some givens) cert)
  pub only : IsProofOf file background (Some givens) cert → IfErr r (λ e. (e ≡ Memory) ⊎ (e ≡ Write))
  pub only_lemmas : IsLemmaProofOf file background (Some givens) cert → IfErr r (λ e. (e ≡ Memory) ⊎ (e ≡ Write))
  pub unique : OnOk r (IsOnlyPicture file background (Some givens) cert)

-- What is shown for the picture in a file by its bytes: a certificate, or a word in its place. The input is left alone.
pub record IsProving (held : Held) (path : List ℕ) (options : ProveOptions) (before after : World)
    (r : Result (Unit {0}) ProgramFault) : Type 0 where
  pub file : List ℕ
  pub content : IsContent held file
  pub names : after.opened ≡ before.opened ++ path ∷ []
  pub faultless : after.faults ≡ before.faults
  pub input : Keeps before.input after.input
  pub writes : WritesProof before.output after.output r (IsProveOf file None options)

-- The same for two files, of which the second names the givens that are published.
pub record IsProvingWith (picture published : Held) (path givens_path : List ℕ) (options : ProveOptions)
    (before after : World) (r : Result (Unit {0}) ProgramFault) : Type 0 where
  pub file : List ℕ
  pub givens : List ℕ
  pub content : IsContent picture file
  pub givens_content : IsContent published givens
  pub names : after.opened ≡ before.opened ++ path ∷ givens_path ∷ []
  pub faultless : after.faults ≡ before.faults
  pub input : Keeps before.input after.input
  pub writes : WritesProof before.output after.output r (IsProveOf file (Some givens) options)

-- a text is written, no file is opened, and the input is left alone
pub record IsShown (text : List ℕ) (before after : World) (r : Result (Unit {0}) ProgramFault) : Type 0 where
  pub names : after.opened ≡ before.opened
  pub faultless : after.faults ≡ before.faults
  pub input : Keeps before.input after.input
  pub sends : Sends before.output after.output text r

-- What comes of a check whose first two files were read: they are checked; or the file of the givens could not be read,
-- or all three are checked.
abbrev pub ChecksBy : (List ℕ → Held) → List ℕ → List ℕ → Option (Bor (List ℕ)) → Option Rgb → World → World
    → Result (Unit {0}) ProgramFault → Type 0
ChecksBy held path cert_path None background before after r =
    IsChecked (held path) (held cert_path) path cert_path background before after r
ChecksBy held path cert_path (Some givens) background before after r =
    IsWithoutGivens (held path) (held cert_path) (held givens.now) path cert_path givens.now before after r
    ⊎ IsCheckedWith (held path) (held cert_path) (held givens.now) path cert_path givens.now background before after r

-- What comes of making a certificate for a picture whose file was read: it is made; or the file of the givens could not
-- be read, or it is made with these.
abbrev pub ProvesBy : (List ℕ → Held) → List ℕ → Option (Bor (List ℕ)) → ProveOptions → World → World
    → Result (Unit {0}) ProgramFault → Type 0
ProvesBy held path None options before after r = IsProving (held path) path options before after r
ProvesBy held path (Some givens) options before after r =
    IsHalfRead (held path) (held givens.now) path givens.now before after r
    ⊎ IsProvingWith (held path) (held givens.now) path givens.now options before after r

-- what comes of making a certificate for the picture in the file of a name
abbrev pub ProvesFile : (List ℕ → Held) → List ℕ → Option (Bor (List ℕ)) → ProveOptions → World → World
    → Result (Unit {0}) ProgramFault → Type 0
ProvesFile held path givens options before after r =
    IsStopped (held path) (path ∷ []) before after r ⊎ ProvesBy held path givens options before after r

-- What comes of each task, by what its files hold, with its options or its background. Where a file could not be read,
-- that is the error, the input was left alone and nothing was written. In all other cases no opening and no read of a
-- file failed. Puzzles that are assessed go on past a file that could not be read.
abbrev pub CarriesOut : (List ℕ → Held) → World → World → Task → Result (Unit {0}) ProgramFault → Type 0
CarriesOut held before after Clues r = ShowsClues before after r
CarriesOut held before after (Work path options) r =
    IsStopped (held path.now) (path.now ∷ []) before after r ⊎ IsWorked (held path.now) path.now options before after r
CarriesOut held before after (Check path certificate givens background) r =
    IsStopped (held path.now) (path.now ∷ []) before after r
    ⊎ (IsHalfRead (held path.now) (held certificate.now) path.now certificate.now before after r
    ⊎ ChecksBy held path.now certificate.now givens background before after r)
CarriesOut held before after (Prove path givens options) r = ProvesFile held path.now givens options before after r
CarriesOut held before after (Assess files options givens cert) r =
    AssessesNamed held files.items givens cert options before after r
CarriesOut held before after (Help text) r = IsShown (string_bytes text) before after r
