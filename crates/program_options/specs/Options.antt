-- The options of a session on a file.
use Rattle.std.specs.Prelude.{◌≡◌, ◌<◌, ◌≤◌, true, None}
use Rattle.edits.specs.declared.studio.TheConstants.{MAX_DEPTH}
use Rattle.program_options.specs.declared.options.Options.{Options}

-- the history is one that a bench can keep, and a background is given only with a P3 text
pub record IsLawful (options : Options) : Type 0 where
  pub some : 0 < options.history
  pub fits : options.history ≤ MAX_DEPTH
  pub background : options.non ≡ true → options.background ≡ None
