-- What the words ask for, by the values that the parser of words found.
use Rattle.std.specs.Prelude.{◌≡◌, ◌⊎◌, ◌||◌, ℕ, ◌<◌, ◌≤◌, ◌↔◌, Bool, true, false, List, [], ◌∷◌, bytes_eq, codes, Option}
use Rattle.std.specs.Prelude.{is_some, length, option_map, unwrap_or}
use Rattle.std.specs.Prelude.{None, Some, Result, Ok, Err, refl}
use Rattle.std.specs.Str.Parse.{IsNumeral, digits_value, without_leading_plus}
use Rattle.clap.specs.Walk.{texts}
use Rattle.clap.specs.Words.{App, IsAmong, Kinds, Row, Text, all_of, fault_of, first_of, first_value, matched_of}
use Rattle.clap.specs.Words.{one_of, one_text, raw_values, subcommand_of, takes}
use Rattle.clap.specs.declared.error.kind.ErrorKind.{ErrorKind}
use Rattle.clap.specs.declared.error.kind.ErrorKind.TheVariants.{DisplayHelp, DisplayVersion, OutOfMemory}
use Rattle.clap.specs.declared.parser.matches.Found.{Found}
use Rattle.picture.specs.declared.rgb.Rgb.{Rgb}
use Rattle.program_options.specs.declared.fault.ProgramFault.{ProgramFault}
use Rattle.program_options.specs.declared.fault.ProgramFault.TheVariants as fault
use Rattle.program_options.specs.declared.assessing.AssessOptions.{AssessOptions}
use Rattle.program_options.specs.declared.options.Options.{Options}
use Rattle.program_options.specs.declared.options.ProveOptions.{ProveOptions}
use Rattle.command_text.specs.Parse.{allowance_of}
use Rattle.command_text.specs.declared.command.TheConstants.{ASSESS_SPLITS}
use Rattle.program_options.specs.Background.{background_of}
use Rattle.program_options.specs.Options.{IsLawful}
use Rattle.command_line.specs.Program.{AreFormats, Formats, program_app}
use Rattle.command_line.specs.declared.words.Task.{Task}
use Rattle.command_line.specs.declared.words.Task.TheVariants.{Work, Check, Prove, Assess, Help}

-- the options of a session are lawful, and a background is given only with P3 texts
abbrev pub IsLawfulTask : Task → Type 0
IsLawfulTask (Work file options) = IsLawful options
IsLawfulTask (Assess files options givens cert) = options.non ≡ true → options.background ≡ None
IsLawfulTask _ = Unit {0}

-- ---- the values of a subcommand

-- the text of each argument, where it has one, and the texts of the files
pub record Given : Type 0 where
  pub file : Option Text
  pub cert : Option Text
  pub givens : Option Text
  pub format : Option Text
  pub background : Option Text
  pub history : Option Text
  pub complete : Option Text
  pub files : List Text
  pub certificate : Option Text
  pub allow : Option Text

-- these texts in the rows of a parse
abbrev pub given_in : List Row → Given
given_in rows = record {
  file = first_of (codes "file") rows;
  cert = first_of (codes "cert") rows;
  givens = first_of (codes "givens") rows;
  format = first_of (codes "format") rows;
  background = first_of (codes "background") rows;
  history = one_of (codes "history") rows;
  complete = one_of (codes "complete") rows;
  files = unwrap_or (all_of (codes "files") rows) [];
  certificate = first_of (codes "certificate") rows;
  allow = first_of (codes "allow") rows;
}

-- these texts in the entries of a subcommand
abbrev pub given_of : Found → Given
given_of f = record {
  file = first_value f (codes "file");
  cert = first_value f (codes "cert");
  givens = first_value f (codes "givens");
  format = first_value f (codes "format");
  background = first_value f (codes "background");
  history = one_text f (codes "history");
  complete = one_text f (codes "complete");
  files = unwrap_or (option_map raw_values (matched_of f (codes "files"))) [];
  certificate = first_value f (codes "certificate");
  allow = first_value f (codes "allow");
}

-- ---- the task

abbrev pub background_named : Option Rgb → Result (Option Rgb) ProgramFault
background_named None = Err fault.Background
background_named (Some rgb) = Ok (Some rgb)

-- the background that is asked for: none, the colour that the text names, or the error of a text that names none
abbrev pub background_asked : Option Text → Result (Option Rgb) ProgramFault
background_asked None = Ok None
background_asked (Some text) = background_named (background_of text)

-- a text of decimal digits, with or without a leading plus, and the number that they write; it may have leading zeros
pub record Spells (text : Text) (n : ℕ) : Type 0 where
  pub numeral : IsNumeral 10 (without_leading_plus text)
  pub value : digits_value 10 (without_leading_plus text) ≡ n

-- The format and the background are those of the words; so is
-- the history, where its text writes a number from 1 to 1,000.
pub record AreOptions (g : Given) (options : Options) : Type 0 where
  pub format : (options.non ≡ true) ↔ (g.format ≡ Some (codes "non"))
  pub background : background_asked g.background ≡ Ok options.background
  pub history : (text : Text) (n : ℕ) → 0 < n → n ≤ 1000 → Spells text n → g.history ≡ Some text → options.history ≡ n

-- a path as it was given
abbrev pub path_of : Option Text → Text
path_of path = unwrap_or path []

-- Why nothing is asked for: the background names no colour; or it names one, and the file is a .non text.
abbrev pub IsRefused : Given → ProgramFault → Type 0
IsRefused g e =
    (background_asked g.background ≡ Err e)
    ⊎ ((e ≡ fault.BackgroundOfNon)
    × ((g.format ≡ Some (codes "non")) × ((rgb : Rgb) × (background_asked g.background ≡ Ok (Some rgb)))))

-- a session with this file and these options
abbrev pub IsWork : Given → Result Task ProgramFault → Type 0
IsWork g (Ok (Work file options)) = (file.now ≡ path_of g.file) × AreOptions g options
IsWork g (Ok _) = ⊥
IsWork g (Err e) = IsRefused g e

-- a check with these two files, this file of the published givens or none, and this background
abbrev pub IsCheck : Given → Result Task ProgramFault → Type 0
IsCheck g (Ok (Check file cert givens background)) =
    (file.now ≡ path_of g.file)
    × ((cert.now ≡ path_of g.cert)
    × ((option_map (λ path. path.now) givens ≡ g.givens) × (background_asked g.background ≡ Ok background)))
IsCheck g (Ok _) = ⊥
IsCheck g (Err e) = background_asked g.background ≡ Err e

-- The format and the background are those of the words, and so is the flag for a complete search, which the parser
-- reads as `true` or `false`.
pub record AreProveOptions (g : Given) (options : ProveOptions) : Type 0 where
  pub background : background_asked g.background ≡ Ok options.background
  pub single : (options.single ≡ true) ↔ (g.format ≡ Some (codes "1"))
  pub complete : g.complete ≡ Some (codes "true") → options.complete ≡ true
  pub bounded : g.complete ≡ Some (codes "false") → options.complete ≡ false

-- the making of a certificate for this file with this file of givens or none, and these options
abbrev pub IsProve : Given → Result Task ProgramFault → Type 0
IsProve g (Ok (Prove file givens options)) =
    (file.now ≡ path_of g.file)
    × ((option_map (λ path. path.now) givens ≡ g.givens) × AreProveOptions g options)
IsProve g (Ok _) = ⊥
IsProve g (Err e) = background_asked g.background ≡ Err e

-- ---- assessments

abbrev pub allowance_named : Option (Option ℕ) → Result (Option ℕ) ProgramFault
allowance_named None = Err fault.Allowance
allowance_named (Some allowance) = Ok allowance

-- The allowance that is asked for: 10,000 splits where there is no text, none for `off`, or the number that the text
-- writes; or the error of another text.
abbrev pub allowance_asked : Option Text → Result (Option ℕ) ProgramFault
allowance_asked None = Ok (Some ASSESS_SPLITS)
allowance_asked (Some text) = allowance_named (allowance_of text)

-- the format, the background and the allowance are those of the words
pub record AreAssessOptions (g : Given) (options : AssessOptions) : Type 0 where
  pub format : (options.non ≡ true) ↔ (g.format ≡ Some (codes "non"))
  pub background : background_asked g.background ≡ Ok options.background
  pub allowance : allowance_asked g.allow ≡ Ok options.allowance

-- givens or a certificate are named
abbrev pub has_beside : Given → Bool
has_beside g = is_some g.givens || is_some g.certificate

-- Why no assessment is asked for: as for a session; or the allowance is none; or givens or a certificate are named for
-- another number of files than one.
abbrev pub IsUnassessed : Given → ProgramFault → Type 0
IsUnassessed g e =
    IsRefused g e
    ⊎ ((allowance_asked g.allow ≡ Err e) ⊎ ((e ≡ fault.OneFile) × ((has_beside g ≡ true) × (length g.files ≡ 1 → ⊥))))

-- assessments of these files with these options, and the files beside the puzzle's
abbrev pub IsAssess : Given → Result Task ProgramFault → Type 0
IsAssess g (Ok (Assess files options givens cert)) =
    (texts files.items ≡ g.files)
    × (AreAssessOptions g options
    × ((option_map (λ path. path.now) givens ≡ g.givens)
    × ((option_map (λ path. path.now) cert ≡ g.certificate) × (has_beside g ≡ true → length g.files ≡ 1))))
IsAssess g (Ok _) = ⊥
IsAssess g (Err e) = (e ≡ fault.Memory) ⊎ IsUnassessed g e

-- the subcommand that was entered is one of the program's
abbrev pub IsNamed : Option (Text × List Row) → Type 0
IsNamed None = ⊥
IsNamed (Some entered) =
    (entered.0 ≡ codes "work")
    ⊎ ((entered.0 ≡ codes "check") ⊎ ((entered.0 ≡ codes "prove")
    ⊎ (entered.0 ≡ codes "assess")))

-- what a subcommand that was entered asks for, by its name and its rows
pub record IsAsked (entered : Option (Text × List Row)) (r : Result Task ProgramFault) : Type 0 where
  pub work : (rows : List Row) → entered ≡ Some (codes "work", rows) → IsWork (given_in rows) r
  pub check : (rows : List Row) → entered ≡ Some (codes "check", rows) → IsCheck (given_in rows) r
  pub prove : (rows : List Row) → entered ≡ Some (codes "prove", rows) → IsProve (given_in rows) r
  pub assess : (rows : List Row) → entered ≡ Some (codes "assess", rows) → IsAssess (given_in rows) r

-- ---- words that are not taken

-- help or the version was asked for
abbrev pub is_shown : ErrorKind → Bool
is_shown DisplayHelp = true
is_shown DisplayVersion = true
is_shown _ = false

-- a flag that asks for help
abbrev pub is_help_flag : Text → Bool
is_help_flag word = bytes_eq word (codes "-h") || bytes_eq word (codes "--help")

-- Words that can ask for help or the version and for nothing else: one word; or two, of which the second is a flag for
-- help, or the first is `help`.
abbrev pub asks_alone : List Text → Bool
asks_alone (word ∷ []) = true
asks_alone (first ∷ second ∷ []) = bytes_eq first (codes "help") || is_help_flag second
asks_alone words = false

-- What comes of words with an error of this kind: help or the version is shown, where they ask for nothing else; or
-- they are refused; or memory ran out.
abbrev pub IsUntaken : List Text → ErrorKind → Result Task ProgramFault → Type 0
IsUntaken words kind (Ok (Help text)) = (is_shown kind ≡ true) × (asks_alone words ≡ true)
IsUntaken words kind (Ok _) = ⊥
IsUntaken words kind (Err fault.HelpBeside) = (is_shown kind ≡ true) × (asks_alone words ≡ false)
IsUntaken words kind (Err (fault.Words text)) = (is_shown kind ≡ false) × (kind ≡ OutOfMemory → ⊥)
IsUntaken words kind (Err e) = e ≡ fault.Memory

-- ---- words

-- What comes of words, by the kinds of error that they have. Without an error they name one of the subcommands, and
-- the task is what it asks for. Else the definition does not take them, and the result is that of one of the kinds.
abbrev pub IsTaskBy : Kinds → App → List Text → Result Task ProgramFault → Type 0
IsTaskBy [] app words r = IsNamed (subcommand_of app words) × IsAsked (subcommand_of app words) r
IsTaskBy (first ∷ more) app words r =
    (takes app words ≡ true → ⊥) × ((kind : ErrorKind) × (IsAmong kind (first ∷ more) × IsUntaken words kind r))

-- What words ask for: memory ran out; or it is as the definition of the program's command line reads them.
abbrev pub IsTaskOf : List Text → Result Task ProgramFault → Type 0
IsTaskOf words r = (r ≡ Err fault.Memory) ⊎ ((formats : Formats)
    × (AreFormats formats × IsTaskBy (fault_of (program_app formats) words) (program_app formats) words r))

-- ---- worked by hand

-- leading zeros and a leading plus are taken
five : digits_value 10 (without_leading_plus (codes "05")) ≡ 5
five = refl

plus_five : digits_value 10 (without_leading_plus (codes "+5")) ≡ 5
plus_five = refl
