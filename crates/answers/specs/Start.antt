-- A bench that starts with a file.
use Rattle.std.specs.Prelude.{◌≡◌, ◌⊎◌, ℕ, List, Result, Ok, Err}
use Rattle.picture.specs.Palette.{IsPalette}
use Rattle.picture.specs.Picture.{IsPicture}
use Rattle.edits.specs.Design.{Design}
use Rattle.live_audit.specs.Bench.{Begins, IsAudited, Seen}
use Rattle.program_options.specs.declared.fault.ProgramFault.{ProgramFault}
use Rattle.program_options.specs.declared.fault.ProgramFault.TheVariants.{Memory}
use Rattle.program_options.specs.declared.options.Options.{Options}
use Rattle.answers.specs.Open.{OpensFile}

-- The bench has the document that the file is opened as, which is lawful, and an empty history of that depth.
pub record IsStarted (file : List ℕ) (options : Options) (fresh : Seen) : Type 0 where
  pub document : Design
  pub opens : OpensFile file options (Ok document)
  pub palette : IsPalette document.colours
  pub picture : IsPicture document.rows
  pub begins : Begins document options.history 0 fresh
  pub audited : IsAudited fresh

-- the answer of a call to start a bench: it, or why the file is refused, or out of memory
abbrev pub Starts : List ℕ → Options → Result Seen ProgramFault → Type 0
Starts file options (Ok fresh) = IsStarted file options fresh
Starts file options (Err fault) = (fault ≡ Memory) ⊎ OpensFile file options (Err fault)
