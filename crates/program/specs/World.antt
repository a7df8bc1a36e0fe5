-- What is outside of the program, before a call or after it.
use Rattle.std.specs.Prelude.{◌≡◌, ℕ, List, ◌++◌, Option, Result, Err}
use Rattle.std.specs.Io.KnownBytes.{Keeps}
use Rattle.program_options.specs.declared.fault.ProgramFault.{ProgramFault}
use Rattle.program.specs.Files.{HasFailed, Held, IsUnreadFile}
use Rattle.command_text.specs.Words.{Texts}

-- the names of the files that were opened; how often one could not be opened, or a read of one or of a whole input
-- failed; what is left of the input, and what went out, both where that is known
pub record World : Type 0 where
  pub opened : Texts
  pub faults : ℕ
  pub input : Option (List ℕ)
  pub output : Option (List ℕ)

abbrev pub world : Texts → ℕ → Option (List ℕ) → Option (List ℕ) → World
world opened faults input output = record { opened = opened; faults = faults; input = input; output = output }

-- no file was opened, nothing failed, the input was left alone, and nothing went out
pub record IsUntouched (before after : World) : Type 0 where
  pub opened : after.opened ≡ before.opened
  pub faults : after.faults ≡ before.faults
  pub input : Keeps before.input after.input
  pub output : Keeps before.output after.output

-- these files alone were opened, the input was left alone, and nothing went out
pub record OnlyOpens (before after : World) (paths : Texts) : Type 0 where
  pub names : after.opened ≡ before.opened ++ paths
  pub input : Keeps before.input after.input
  pub output : Keeps before.output after.output

-- The last of these files could not be read, and that is the error: it is `Read` exactly if opening or reading failed.
pub record IsStopped (held : Held) (paths : Texts) (before after : World)
    (r : Result (Unit {0}) ProgramFault) : Type 0 where
  pub fault : ProgramFault
  pub is : r ≡ Err fault
  pub unread : IsUnreadFile held fault
  pub cause : HasFailed before.faults after.faults fault
  pub only : OnlyOpens before after paths
