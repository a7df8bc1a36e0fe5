-- What comes of a run for arguments that ask for assessments.
use Rattle.std.specs.Prelude.{◌≡◌, ◌==◌, ℕ, ◌+◌, Bool, true, List, [], ◌∷◌, ◌++◌, length, not, Option, Ok}
use Rattle.std.specs.Borrow.{Bor}
use Rattle.std.specs.Io.KnownBytes.{Appends}
use Rattle.program_options.specs.declared.assessing.AssessOptions.{AssessOptions}
use Rattle.answers.specs.declared.assessing.Block.{Block}
use Rattle.answers.specs.Assess.{Assesses}
use Rattle.program.specs.declared.assessing.Asked.{Asked}
use Rattle.program.specs.Assess.{HasText, heading_text, named, number_of, text_in}
use Rattle.program.specs.Files.{Held, IsContent}
use Rattle.program.specs.Run.{texts}
use Rattle.program.specs.World.{World}
use Rattle.command_text.specs.Words.{Texts}

-- the files that assessments name, in the order in which they are opened
abbrev pub files_assessed : List (Bor (List ℕ)) → Option (Bor (List ℕ)) → Option (Bor (List ℕ)) → Texts
files_assessed paths givens cert = named givens ++ (named cert ++ texts paths)

-- the block of the puzzle in a file, which is fit to be published
pub record IsFitBlock (held : Held) (asked : Asked) (block : Block) : Type 0 where
  pub file : List ℕ
  pub content : IsContent held file
  pub assesses : Assesses file (text_in asked.givens) (text_in asked.cert) asked.options (Ok block)
  pub fit : block.is_fit ≡ true

-- the text is the blocks of the puzzles in files, from a number on, each of which is fit to be published
abbrev pub AreFit : (List ℕ → Held) → Asked → Bool → ℕ → List (Bor (List ℕ)) → List ℕ → Type 0
AreFit held asked several number [] text = text ≡ []
AreFit held asked several number (path ∷ paths) text =
    (block : Block) × (IsFitBlock (held path.now) asked block × ((rest : List ℕ)
    × ((text ≡ (heading_text (number_of several number) ++ block.text.items) ++ rest)
    × AreFit held asked several (number + 1) paths rest)))

-- each puzzle is fit to be published, with the texts of the files beside it, and its block was written
pub record HasAssessed (held : List ℕ → Held) (paths : List (Bor (List ℕ))) (givens cert : Option (Bor (List ℕ)))
    (options : AssessOptions) (before after : World) : Type 0 where
  pub asked : Asked
  pub options_are : asked.options ≡ options
  pub givens_are : HasText held givens (text_in asked.givens)
  pub cert_is : HasText held cert (text_in asked.cert)
  pub text : List ℕ
  pub are_fit : AreFit held asked (not (length paths == 1)) 1 paths text
  pub went_out : Appends before.output after.output text
