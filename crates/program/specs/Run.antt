-- What comes of the program's arguments.
use Rattle.std.specs.Prelude.{◌≡◌, ◌⊎◌, ℕ, true, List, [], ◌∷◌, map, Option, Result, Ok, Err}
use Rattle.std.specs.Borrow.{Bor}
use Rattle.std.specs.Io.KnownBytes.{Appends}
use Rattle.std.specs.Process.{exit_status}
use Rattle.program_options.specs.declared.fault.ProgramFault.{ProgramFault}
use Rattle.program_options.specs.declared.fault.ProgramFault.TheVariants.{Memory}
use Rattle.command_line.specs.declared.words.Task.{Task}
use Rattle.command_line.specs.declared.words.Task.TheVariants.{Clues}
use Rattle.command_line.specs.Words.{IsTaskOf}
use Rattle.program.specs.declared.ending.Ended.{Ended}
use Rattle.program.specs.Endings.{line_after, status_after}
use Rattle.program.specs.Files.{Held}
use Rattle.program.specs.Work.{CarriesOut}
use Rattle.program.specs.World.{IsUntouched, World}
use Rattle.command_text.specs.Words.{Texts}

-- the texts of words
abbrev pub texts : List (Bor (List ℕ)) → Texts
texts words = map (λ (word : Bor (List ℕ)). word.now) words

-- what the words ask for: the clues where there is no word, and else
-- as the definition of the program's command line reads them
abbrev pub IsTask : Texts → Result Task ProgramFault → Type 0
IsTask [] r = r ≡ Ok Clues
IsTask (word ∷ words) r = IsTaskOf (word ∷ words) r

-- it ends with an error before a file was opened, anything of the input read or anything written
pub record IsRefused (fault : ProgramFault) (before after : World) (r : Result (Unit {0}) ProgramFault) : Type 0 where
  pub is : r ≡ Err fault
  pub only : IsUntouched before after

-- What is done for words: they are refused; or they ask for a task, which is carried out.
abbrev pub Answers : Texts → (List ℕ → Held) → World → World → Result (Unit {0}) ProgramFault → Type 0
Answers words held before after r =
    ((fault : ProgramFault) × (IsTask words (Err fault) × IsRefused fault before after r))
    ⊎ ((task : Task) × (IsTask words (Ok task) × CarriesOut held before after task r))

-- What is done for arguments: what is done for their texts, or nothing, where memory ran out before they were read.
abbrev pub AnswersAll : Texts → (List ℕ → Held) → World → World → Result (Unit {0}) ProgramFault → Type 0
AnswersAll words held before after r = IsRefused Memory before after r ⊎ Answers words held before after r

-- How the program ends: what came of the arguments, the exit status of
-- that, and what went to standard error, unless writing there failed.
pub record Ends (Comes : Result (Unit {0}) ProgramFault → Type 0) (had has : Option (List ℕ))
    (ended : Ended) : Type 0 where
  pub outcome : Result (Unit {0}) ProgramFault
  pub comes : Comes outcome
  pub status : exit_status ended.code ≡ status_after outcome
  pub line : ended.told ≡ true → Appends had has (line_after outcome)
