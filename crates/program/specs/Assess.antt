-- What comes of assessments of puzzles, by what the files that are named hold.
use Rattle.std.specs.Prelude.{◌≡◌, ◌⊎◌, ◌==◌, ℕ, ◌+◌, Bool, true, false, List, [], ◌∷◌, ◌++◌, codes, decimal, length}
use Rattle.std.specs.Prelude.{if◌then◌else◌, not, option_map, Option, None, Some, Result, Ok, Err}
use Rattle.std.specs.Borrow.{Bor}
use Rattle.std.specs.Io.KnownBytes.{Appends, Keeps}
use Rattle.std.proofs.Common.{Vec, Global}
use Rattle.picture.specs.Writers.{AppendsFront}
use Rattle.program_options.specs.declared.assessing.AssessOptions.{AssessOptions}
use Rattle.program_options.specs.declared.fault.ProgramFault.{ProgramFault}
use Rattle.program_options.specs.declared.fault.ProgramFault.TheVariants.{Memory, Read, TooLong, Write}
use Rattle.program_options.specs.declared.fault.ProgramFault.TheVariants.{Unfit as IsUnfit}
use Rattle.program_options.specs.Faults.{fault_text}
use Rattle.answers.specs.declared.assessing.Block.{Block}
use Rattle.answers.specs.Assess.{Assesses}
use Rattle.program.specs.declared.assessing.Asked.{Asked}
use Rattle.program.specs.declared.assessing.Standing.{Standing}
use Rattle.program.specs.declared.assessing.Standing.TheVariants.{Fit, Unfit, Unread}
use Rattle.program.specs.Files.{HasFailed, Held, IsContent, IsUnreadFile}
use Rattle.program.specs.World.{IsStopped, IsUntouched, World}
use Rattle.command_text.specs.Words.{Texts}

-- ---- what is written for a puzzle

-- the line of a file that is refused
abbrev pub refusal_text : ProgramFault → List ℕ
refusal_text TooLong = codes "refused too long\n"
refusal_text Read = codes "refused read\n"
refusal_text fault = codes "refused " ++ (fault_text fault ++ 10 ∷ [])

-- the block of a puzzle, or the line why it is refused
abbrev pub outcome_text : Result Block ProgramFault → List ℕ
outcome_text (Ok block) = block.text.items
outcome_text (Err fault) = refusal_text fault

-- the number of a puzzle, where there are several
abbrev pub heading_text : Option ℕ → List ℕ
heading_text None = []
heading_text (Some number) = codes "puzzle " ++ (decimal number ++ 10 ∷ [])

-- ---- what a puzzle came to

abbrev pub standing_by : Bool → Standing
standing_by true = Fit
standing_by false = Unfit

abbrev pub standing_of : Result Block ProgramFault → Standing
standing_of (Ok block) = standing_by block.is_fit
standing_of (Err fault) = Unfit

-- a file that could not be read, or was too long
abbrev pub standing_after : ProgramFault → Standing
standing_after Read = Unread
standing_after fault = Unfit

-- the worse of what two puzzles came to
abbrev pub worse : Standing → Standing → Standing
worse Fit other = other
worse Unfit Fit = Unfit
worse Unfit Unfit = Unfit
worse Unfit Unread = Unread
worse Unread other = Unread

-- how a run ends after its last puzzle
abbrev pub ended : Standing → Result (Unit {0}) ProgramFault
ended Fit = Ok tt
ended Unfit = Err IsUnfit
ended Unread = Err Read

-- ---- one puzzle

abbrev pub text_in : Option (Vec ℕ Global) → Option (List ℕ)
text_in text = option_map (λ bytes. bytes.items) text

-- the puzzle in a file that was read is assessed, and this is its block, or the line why it is refused
pub record IsAssessed (file : List ℕ) (asked : Asked) (text : List ℕ) (standing : Standing) : Type 0 where
  pub outcome : Result Block ProgramFault
  pub assesses : Assesses file (text_in asked.givens) (text_in asked.cert) asked.options outcome
  pub lasts : outcome ≡ Err Memory → ⊥
  pub is : text ≡ outcome_text outcome
  pub stands : standing ≡ standing_of outcome

-- a puzzle was not read, and this is the line for that
pub record IsNotRead (fault : ProgramFault) (text : List ℕ) (standing : Standing) : Type 0 where
  pub lasts : fault ≡ Memory → ⊥
  pub is : text ≡ refusal_text fault
  pub stands : standing ≡ standing_after fault

-- What comes of the puzzle in a file: it is not read, and the count of faults rises exactly if opening or reading
-- failed; or it is assessed.
abbrev pub Comes : Held → Asked → ℕ → ℕ → List ℕ → Standing → Type 0
Comes held asked faults later text standing =
    ((fault : ProgramFault) × (IsUnreadFile held fault
    × (HasFailed faults later fault × IsNotRead fault text standing)))
    ⊎ ((file : List ℕ) × (IsContent held file × ((later ≡ faults) × IsAssessed file asked text standing)))

-- the file of a puzzle was opened, and this is to be written for it, behind its number
pub record IsTold (held : Held) (asked : Asked) (path : List ℕ) (number : Option ℕ) (before after : World)
    (told : List ℕ) (standing : Standing) : Type 0 where
  pub text : List ℕ
  pub comes : Comes held asked before.faults after.faults text standing
  pub is : told ≡ heading_text number ++ text
  pub names : after.opened ≡ before.opened ++ path ∷ []
  pub input : Keeps before.input after.input

-- memory ran out over a puzzle, and nothing of it was written
pub record IsShort (path : List ℕ) (before after : World) (fault : ProgramFault) : Type 0 where
  pub is : fault ≡ Memory
  pub names : after.opened ≡ before.opened ++ path ∷ []
  pub input : Keeps before.input after.input
  pub output : Keeps before.output after.output

-- What comes of one puzzle of a run: it is written; or memory ran out; or only a prefix of it could be written.
abbrev pub AssessesOne : Held → Asked → List ℕ → Option ℕ → World → World → Result Standing ProgramFault → Type 0
AssessesOne held asked path number before after (Ok standing) =
    (told : List ℕ) × (IsTold held asked path number before after told standing
    × Appends before.output after.output told)
AssessesOne held asked path number before after (Err fault) =
    IsShort path before after fault
    ⊎ ((told : List ℕ) × ((standing : Standing) × (IsTold held asked path number before after told standing
    × ((fault ≡ Write) × AppendsFront before.output after.output told))))

-- ---- one puzzle after the other

-- the number of a puzzle, of several
abbrev pub number_of : Bool → ℕ → Option ℕ
number_of several number = if several then Some number else None

-- What comes of puzzles from a number on, by the worst of those before them. The run breaks off where memory runs out
-- or a write fails; else it ends by the worst of all.
abbrev pub AssessesAll : (List ℕ → Held) → Asked → Bool → ℕ → List (Bor (List ℕ)) → Standing → World → World
    → Result (Unit {0}) ProgramFault → Type 0
AssessesAll held asked several number [] worst before after r = (r ≡ ended worst) × IsUntouched before after
AssessesAll held asked several number (path ∷ paths) worst before after r =
    ((fault : ProgramFault) × ((r ≡ Err fault)
    × AssessesOne (held path.now) asked path.now (number_of several number) before after (Err fault)))
    ⊎ ((between : World) × ((standing : Standing)
    × (AssessesOne (held path.now) asked path.now (number_of several number) before between (Ok standing)
    × AssessesAll held asked several (number + 1) paths (worse worst standing) between after r)))

-- ---- the files beside the puzzle's

abbrev pub named : Option (Bor (List ℕ)) → Texts
named None = []
named (Some path) = path.now ∷ []

-- the file of a name could not be read, behind others that were opened
abbrev pub StopsAt : (List ℕ → Held) → Option (Bor (List ℕ)) → Texts → World → World
    → Result (Unit {0}) ProgramFault → Type 0
StopsAt held None first before after r = ⊥
StopsAt held (Some path) first before after r = IsStopped (held path.now) (first ++ path.now ∷ []) before after r

-- the text of a file, if one is named
abbrev pub HasText : (List ℕ → Held) → Option (Bor (List ℕ)) → Option (List ℕ) → Type 0
HasText held None text = text ≡ None
HasText held (Some path) None = ⊥
HasText held (Some path) (Some text) = IsContent (held path.now) text

-- the text of a file, if one is named, or why it is not read
abbrev pub ReadsIfNamed : (List ℕ → Held) → Option (Bor (List ℕ)) → Result (Option (Vec ℕ Global)) ProgramFault → Type 0
ReadsIfNamed held None r = r ≡ Ok None
ReadsIfNamed held (Some path) (Ok None) = ⊥
ReadsIfNamed held (Some path) (Ok (Some text)) = IsContent (held path.now) text.items
ReadsIfNamed held (Some path) (Err fault) = IsUnreadFile (held path.now) fault

-- the puzzles are assessed with the texts of the files beside them, which were read
pub record AssessesWith (held : List ℕ → Held) (paths : List (Bor (List ℕ))) (givens cert : Option (Bor (List ℕ)))
    (options : AssessOptions) (before after : World) (r : Result (Unit {0}) ProgramFault) : Type 0 where
  pub asked : Asked
  pub options_are : asked.options ≡ options
  pub givens_are : HasText held givens (text_in asked.givens)
  pub cert_is : HasText held cert (text_in asked.cert)
  pub start : World
  pub names : start.opened ≡ before.opened ++ (named givens ++ named cert)
  pub faultless : start.faults ≡ before.faults
  pub input : Keeps before.input start.input
  pub output : Keeps before.output start.output
  pub runs : AssessesAll held asked (not (length paths == 1)) 1 paths Fit start after r

-- What comes of assessments of the puzzles in files: a file beside them could not be read, that of the givens first;
-- or they are assessed.
abbrev pub AssessesNamed : (List ℕ → Held) → List (Bor (List ℕ)) → Option (Bor (List ℕ)) → Option (Bor (List ℕ))
    → AssessOptions → World → World → Result (Unit {0}) ProgramFault → Type 0
AssessesNamed held paths givens cert options before after r =
    StopsAt held givens [] before after r
    ⊎ (StopsAt held cert (named givens) before after r ⊎ AssessesWith held paths givens cert options before after r)
