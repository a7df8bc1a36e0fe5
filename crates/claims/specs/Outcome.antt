-- What comes of a run of the program, for arguments that ask for a task or for none.
use Rattle.std.specs.Prelude.{◌≡◌, ◌⊎◌, ℕ, List, [], ◌∷◌, ◌++◌, true, Option, None, Some, Result, Ok, IfSome}
use Rattle.std.specs.Prelude.{string_bytes, take}
use Rattle.std.specs.Io.KnownBytes.{Appends, Keeps}
use Rattle.picture.specs.declared.rgb.Rgb.{Rgb}
use Rattle.live_audit.specs.Bench.{Seen}
use Rattle.live_audit.specs.Calls.{Machine, machine}
use Rattle.session.specs.Truth.{TellsTruth}
use Rattle.program_options.specs.declared.fault.ProgramFault.{ProgramFault}
use Rattle.program_options.specs.declared.options.Options.{Options}
use Rattle.program_options.specs.declared.options.ProveOptions.{ProveOptions}
use Rattle.text_check.specs.Check.{IsOnlyPicture}
use Rattle.answers.specs.Check.{IsCheckOf}
use Rattle.answers.specs.Prove.{IsProveOf, ambiguous_text, undecided_text}
use Rattle.answers.specs.Run.{shown}
use Rattle.answers.specs.Start.{IsStarted}
use Rattle.command_line.specs.declared.words.Task.{Task}
use Rattle.command_line.specs.declared.words.Task.TheVariants.{Assess, Check, Clues, Help, Prove, Work}
use Rattle.claims.specs.Assessments.{HasAssessed, files_assessed}
use Rattle.program.specs.Endings.{status_after}
use Rattle.program.specs.Files.{Held, IsContent}
use Rattle.program.specs.Run.{AnswersAll, IsTask}
use Rattle.program.specs.World.{World}
use Rattle.command_text.specs.Words.{Texts}

-- the files that a task names, in the order in which they are opened
abbrev pub files_of : Task → Texts
files_of Clues = []
files_of (Work file options) = file.now ∷ []
files_of (Check file cert None background) = file.now ∷ cert.now ∷ []
files_of (Check file cert (Some givens) background) = file.now ∷ cert.now ∷ givens.now ∷ []
files_of (Prove file None options) = file.now ∷ []
files_of (Prove file (Some givens) options) = file.now ∷ givens.now ∷ []
files_of (Assess files options givens cert) = files_assessed files.items givens cert
files_of (Help text) = []

-- ---- a task that is done

-- the clues of the picture that is the whole input were written
pub record HasShown (before after : World) : Type 0 where
  pub input : List ℕ
  pub is_input : IfSome before.input (λ bytes. input ≡ bytes)
  pub text : List ℕ
  pub shows : shown input None ≡ Ok text
  pub went_out : Appends before.output after.output text

-- for each line of the input a true text was written, beginning with the document in the file
pub record HasAnswered (held : Held) (options : Options) (before after : World) : Type 0 where
  pub file : List ℕ
  pub content : IsContent held file
  pub fresh : Seen
  pub started : IsStarted file options fresh
  pub last : Machine
  pub truth : TellsTruth before.input after.input before.output after.output
      (machine fresh.history fresh.allowance) last (Ok tt)

-- no other picture of that size has the clues of the picture in the first file and its colours
-- in the givens of the certificate in the second one; and the line of the check was written
pub record HasChecked (picture certificate : Held) (background : Option Rgb) (before after : World) : Type 0 where
  pub file : List ℕ
  pub content : IsContent picture file
  pub cert : List ℕ
  pub cert_content : IsContent certificate cert
  pub only : IsOnlyPicture file background None cert
  pub line : List ℕ
  pub shows : IsCheckOf file background None cert (Ok line)
  pub went_out : Appends before.output after.output line

-- no other picture of that size has the clues of the picture in the first file and its colours
-- in the cells that the third one publishes; and the line of the check was written
pub record HasCheckedWith (picture certificate published : Held) (background : Option Rgb)
    (before after : World) : Type 0 where
  pub file : List ℕ
  pub content : IsContent picture file
  pub cert : List ℕ
  pub cert_content : IsContent certificate cert
  pub givens : List ℕ
  pub givens_content : IsContent published givens
  pub only : IsOnlyPicture file background (Some givens) cert
  pub line : List ℕ
  pub shows : IsCheckOf file background (Some givens) cert (Ok line)
  pub went_out : Appends before.output after.output line

-- a certificate for the picture in the file was written
pub record HasMade (picture : Held) (options : ProveOptions) (before after : World) : Type 0 where
  pub file : List ℕ
  pub content : IsContent picture file
  pub text : List ℕ
  pub shows : IsProveOf file None options (Ok (text, true))
  pub went_out : Appends before.output after.output text

-- a certificate for the picture in the first file was written, with the givens that the second one publishes
pub record HasMadeWith (picture published : Held) (options : ProveOptions) (before after : World) : Type 0 where
  pub file : List ℕ
  pub content : IsContent picture file
  pub givens : List ℕ
  pub givens_content : IsContent published givens
  pub text : List ℕ
  pub shows : IsProveOf file (Some givens) options (Ok (text, true))
  pub went_out : Appends before.output after.output text

abbrev pub IsDone : (List ℕ → Held) → World → World → Task → Type 0
IsDone held before after Clues = HasShown before after
IsDone held before after (Work file options) = HasAnswered (held file.now) options before after
IsDone held before after (Check file cert None background) =
    HasChecked (held file.now) (held cert.now) background before after
IsDone held before after (Check file cert (Some givens) background) =
    HasCheckedWith (held file.now) (held cert.now) (held givens.now) background before after
IsDone held before after (Prove file None options) = HasMade (held file.now) options before after
IsDone held before after (Prove file (Some givens) options) =
    HasMadeWith (held file.now) (held givens.now) options before after
IsDone held before after (Assess files options givens cert) =
    HasAssessed held files.items givens cert options before after
IsDone held before after (Help text) = Appends before.output after.output (string_bytes text)

-- the word that stands in a certificate's place was written, where one was asked for; or lines for puzzles
abbrev pub TellsNone : Task → World → World → Type 0
TellsNone (Prove file givens options) before after =
    Appends before.output after.output ambiguous_text ⊎ Appends before.output after.output undecided_text
TellsNone (Assess files options givens cert) before after = (text : List ℕ) × Appends before.output after.output text
TellsNone _ before after = ⊥

-- nothing was written; or this, for arguments that ask for a certificate or for assessments
abbrev pub IsSilent : Texts → World → World → Type 0
IsSilent arguments before after =
    Keeps before.output after.output
    ⊎ ((task : Task) × (IsTask arguments (Ok task) × TellsNone task before after))

-- ---- a run

-- No file was opened, and the status is not 0; or the first `count` files of a task that
-- the arguments ask for were opened, and with status 0 the task is done.
abbrev pub Opens : Texts → (List ℕ → Held) → World → World → ℕ → Type 0
Opens arguments held before after status =
    ((after.opened ≡ before.opened) × (status ≡ 0 → ⊥))
    ⊎ ((task : Task) × (IsTask arguments (Ok task) × ((count : ℕ)
    × ((after.opened ≡ before.opened ++ take count (files_of task)) × (status ≡ 0 → IsDone held before after task)))))

-- A run that opens files in this way. Its outcome is what is exactly to come of the arguments and the files, and the
-- status is that of the outcome: 0 without an error, else the error's. With status 1 nothing was written, or the word
-- that stands in a certificate's place, or lines for puzzles, which are as `answers` says.
pub record Comes (arguments : Texts) (held : List ℕ → Held) (before after : World) (status : ℕ) : Type 0 where
  pub outcome : Result (Unit {0}) ProgramFault
  pub right_status : status ≡ status_after outcome
  pub answers : AnswersAll arguments held before after outcome
  pub silent : status ≡ 1 → IsSilent arguments before after
  pub opens : Opens arguments held before after status
