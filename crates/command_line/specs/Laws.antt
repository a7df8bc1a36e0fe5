-- The laws of what words ask for.
use Rattle.std.specs.Prelude.{◌≡◌, List, [], ◌∷◌, codes, false, true, Option, None, Some, Result, Ok, Err}
use Rattle.std.specs.Prelude.{◌<◌, length, option_map}
use Rattle.std.specs.List.{AllByRecursion}
use Rattle.std.specs.Borrow.{Bor}
use Rattle.std.proofs.Common.{String, Global}
use Rattle.clap.specs.Lexer.{usize_max}
use Rattle.clap.specs.Walk.{texts}
use Rattle.clap.specs.Words.{Text}
use Rattle.picture.specs.declared.rgb.Rgb.{Rgb}
use Rattle.command_text.specs.declared.command.TheConstants.{ASSESS_SPLITS}
use Rattle.program_options.specs.Background.{background_of}
use Rattle.program_options.specs.declared.assessing.AssessOptions.{AssessOptions}
use Rattle.program_options.specs.declared.fault.ProgramFault.{ProgramFault}
use Rattle.program_options.specs.declared.fault.ProgramFault.TheVariants.{Memory}
use Rattle.program_options.specs.declared.options.Options.{Options}
use Rattle.program_options.specs.declared.options.ProveOptions.{ProveOptions}
use Rattle.command_line.specs.declared.words.Task.{Task}
use Rattle.command_line.specs.declared.words.Task.TheVariants.{Assess, Check, Help, Prove, Work}
use Rattle.command_line.specs.Words.{IsTaskOf, asks_alone}

-- ---- words that name files

-- a word that does not begin with a hyphen (45)
abbrev pub IsPlain : Text → Type 0
IsPlain [] = Unit {0}
IsPlain (first ∷ rest) = first ≡ 45 → ⊥

-- such a task, or an error for want of memory alone
abbrev pub IsOnly : (Task → Type 0) → Result Task ProgramFault → Type 0
IsOnly Is (Ok task) = Is task
IsOnly Is (Err e) = e ≡ Memory

-- whatever comes of these words, it is such a task, or memory ran out
abbrev pub AskFor : List Text → (Task → Type 0) → Type 0
AskFor words Is = (r : Result Task ProgramFault) → IsTaskOf words r → IsOnly Is r

-- the path of a file that may be named
abbrev pub path_in : Option (Bor Text) → Option Text
path_in path = option_map (λ path. path.now) path

-- a session on this file
abbrev pub IsWorkBy : Text → Options → Task → Type 0
IsWorkBy path options (Work file chosen) = (file.now ≡ path) × (chosen ≡ options)
IsWorkBy path options _ = ⊥

-- a check of this certificate, with a file of the givens that are published or none
abbrev pub IsCheckBy : Text → Text → Option Text → Option Rgb → Task → Type 0
IsCheckBy path cert_path givens_path background (Check file cert givens chosen) =
    (file.now ≡ path) × ((cert.now ≡ cert_path) × ((path_in givens ≡ givens_path) × (chosen ≡ background)))
IsCheckBy path cert_path givens_path background _ = ⊥

-- the making of a certificate for this file, with a file of the givens that are published or none
abbrev pub IsProveBy : Text → Option Text → ProveOptions → Task → Type 0
IsProveBy path givens_path options (Prove file givens chosen) =
    (file.now ≡ path) × ((path_in givens ≡ givens_path) × (chosen ≡ options))
IsProveBy path givens_path options _ = ⊥

-- assessments of the puzzles in these files, with no file beside them
abbrev pub IsAssessBy : List Text → AssessOptions → Task → Type 0
IsAssessBy paths options (Assess files chosen givens cert) =
    (texts files.items ≡ paths) × ((path_in givens ≡ None) × ((path_in cert ≡ None) × (chosen ≡ options)))
IsAssessBy paths options _ = ⊥

-- what is done where no option is given: a session on a P3 text, with a hundred edits that can be undone; a bounded
-- search for a certificate, with several steps on a line; assessments of P3 texts, with 10,000 splits for each part;
-- and the background is white
abbrev pub default_options : Options
default_options = record { non = false; background = None; history = 100 }

abbrev pub default_search : ProveOptions
default_search = record { background = None; single = false; complete = false }

abbrev pub complete_search : ProveOptions
complete_search = record { background = None; single = false; complete = true }

abbrev pub default_assessment : AssessOptions
default_assessment = record { non = false; background = None; allowance = Some ASSESS_SPLITS }

-- What the words of each command ask for, where no file has a name that begins with a hyphen.
pub record WordsAreKnown : Type 0 where
  pub work : (file : Text) → IsPlain file → AskFor (codes "work" ∷ file ∷ []) (IsWorkBy file default_options)
  pub check : (file cert : Text) → IsPlain file → IsPlain cert
      → AskFor (codes "check" ∷ file ∷ cert ∷ []) (IsCheckBy file cert None None)
  pub check_on : (colour file cert : Text) (rgb : Rgb) → background_of colour ≡ Some rgb → IsPlain colour
      → IsPlain file → IsPlain cert
      → AskFor (codes "check" ∷ codes "--background" ∷ colour ∷ file ∷ cert ∷ [])
      (IsCheckBy file cert None (Some rgb))
  pub check_with : (givens file cert : Text) → IsPlain givens → IsPlain file → IsPlain cert
      → AskFor (codes "check" ∷ codes "--givens" ∷ givens ∷ file ∷ cert ∷ [])
      (IsCheckBy file cert (Some givens) None)
  pub prove : (file : Text) → IsPlain file
      → AskFor (codes "prove" ∷ file ∷ []) (IsProveBy file None default_search)
  pub prove_complete : (file : Text) → IsPlain file
      → AskFor (codes "prove" ∷ codes "--complete" ∷ file ∷ []) (IsProveBy file None complete_search)
  pub prove_with : (givens file : Text) → IsPlain givens → IsPlain file
      → AskFor (codes "prove" ∷ codes "--givens" ∷ givens ∷ file ∷ [])
      (IsProveBy file (Some givens) default_search)
  pub assess : (file : Text) (files : List Text) → length files < usize_max → IsPlain file
      → AllByRecursion IsPlain files
      → AskFor (codes "assess" ∷ file ∷ files) (IsAssessBy (file ∷ files) default_assessment)

-- ---- commands and help

-- a task of each command
abbrev pub IsSession : Task → Type 0
IsSession (Work file options) = Unit {0}
IsSession _ = ⊥

abbrev pub IsChecking : Task → Type 0
IsChecking (Check file cert givens background) = Unit {0}
IsChecking _ = ⊥

abbrev pub IsProving : Task → Type 0
IsProving (Prove file givens options) = Unit {0}
IsProving _ = ⊥

abbrev pub IsAssessing : Task → Type 0
IsAssessing (Assess files options givens cert) = Unit {0}
IsAssessing _ = ⊥

-- such a task is all that words can ask for that begin with a name, unless they are that name and a flag for help
abbrev pub Begins : Text → (Task → Type 0) → Type 0
Begins name Is = (rest : List Text) (task : Task) → asks_alone (name ∷ rest) ≡ false
    → IsTaskOf (name ∷ rest) (Ok task) → Is task

-- Help and the version are shown only for words that ask for nothing else, and each command does what its name says.
pub record CommandsAreKept : Type 0 where
  pub help : (words : List Text) (text : String Global) → IsTaskOf words (Ok (Help text)) → asks_alone words ≡ true
  pub work : Begins (codes "work") IsSession
  pub check : Begins (codes "check") IsChecking
  pub prove : Begins (codes "prove") IsProving
  pub assess : Begins (codes "assess") IsAssessing
