-- What the assessment of a puzzle gives.
use Rattle.std.proofs.Common.{◌≡◌, ℕ, List, Option, Result, Ok, Err, inr, subst, sym}
use Rattle.picture.specs.declared.document.Document.{Document}
use Rattle.program_options.specs.declared.assessing.AssessOptions.{AssessOptions}
use Rattle.program_options.specs.declared.fault.ProgramFault.{ProgramFault}
use Rattle.answers.specs.declared.assessing.Block.{Block}
use Rattle.answers.specs.Assess.{Assesses, Finds, Publishes}

-- the certificate is refused, or memory ran out over what is found
pub not_found : (file : List ℕ) (givens cert : Option (List ℕ)) (options : AssessOptions) (document : Document) (e : ProgramFault) (r : Result Block ProgramFault) → r ≡ Err e
    → Publishes file givens options (Ok document) → Finds document cert options (Err e) → Assesses file givens cert options r
not_found file givens cert options document e r is publishes finds =
    subst (Assesses file givens cert options) (sym is) (inr (inr (record { document = document; publishes = publishes; finds = finds })))
