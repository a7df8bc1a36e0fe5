-- Certificates for puzzles whose givens are published.
use Rattle.std.specs.Prelude.{◌≡◌, ◌⊎◌, ℕ, ◌+◌, ◌-◌, List, [], ◌∷◌, Option, None, Some}
use Rattle.picture.specs.CellSet.{HasCell}
use Rattle.picture.specs.Rows.{Rows}
use Rattle.clues.specs.ClueBook.{clues_of}
use Rattle.clues.specs.Solution.{IsOnlySolution}
use Rattle.cert_text.specs.Cert.{Certificate}
use Rattle.cert_text.specs.declared.cert_line.CellNumber.{CellNumber}
use Rattle.cert_text.specs.declared.fault.CertFault.{CertFault}
use Rattle.cert_text.specs.declared.fault.CertFault.TheVariants.{UnpublishedGiven}
use Rattle.cert_check.specs.FirstFault.{CertFirstFault}
use Rattle.cert_check.specs.Puzzle.{HasCellNumber}

-- a given is one of the cells that are published
abbrev pub IsPublished : Rows → List ℕ → CellNumber → Type 0
IsPublished picture published cell = HasCellNumber picture cell × HasCell published (cell.row - 1) (cell.col - 1)

-- the first given that is not published, where the first given is line n
abbrev pub FirstUnpublished : Rows → List ℕ → ℕ → List CellNumber → Option CertFault → Type 0
FirstUnpublished picture published n [] fault = fault ≡ None
FirstUnpublished picture published n (cell ∷ cells) fault =
    ((IsPublished picture published cell → ⊥) × (fault ≡ Some (UnpublishedGiven n)))
    ⊎ (IsPublished picture published cell × FirstUnpublished picture published (n + 1) cells fault)

-- the first error of a certificate, and where it has none the first of its givens that is not published
abbrev pub PublishedFirstFault : Rows → List ℕ → Certificate → Option CertFault → Type 0
PublishedFirstFault picture published cert fault =
    ((found : CertFault) × (CertFirstFault picture cert (Some found) × (fault ≡ Some found)))
    ⊎ (CertFirstFault picture cert None × FirstUnpublished picture published 2 cert.givens fault)

-- no other picture of the same size has the picture's clues and its colours in the published cells
abbrev pub IsPublishedUnique : Rows → List ℕ → Type 0
IsPublishedUnique picture published = IsOnlySolution (clues_of picture) (HasCell published) picture
