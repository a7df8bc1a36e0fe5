-- What the check of a certificate says of the texts of its files.
use Rattle.std.specs.Prelude.{◌≡◌, ◌⊎◌, ℕ, List, [], ◌∷◌, ◌++◌, length, codes, decimal, Option, None, Some, Result, Ok}
use Rattle.std.specs.Prelude.{Err, unwrap_or}
use Rattle.std.specs.List.{AllByRecursion, Contains, flat_map}
use Rattle.picture.specs.declared.rgb.Rgb.{Rgb}
use Rattle.picture.specs.Document.{Content}
use Rattle.picture.specs.Rows.{Rows, width_of}
use Rattle.ppm_text.specs.declared.fault.PpmFault.{PpmFault}
use Rattle.ppm_text.specs.Ppm.{ppm_of}
use Rattle.cert_text.specs.declared.fault.CertFault.{CertFault}
use Rattle.cert_text.specs.declared.cert_line.CellNumber.{CellNumber}
use Rattle.cert_text.specs.Cert.{Certificate}
use Rattle.cert_text.specs.Reading.{cert_of}
use Rattle.cert_text.specs.WrittenCert.{given_text}
use Rattle.cert_check.specs.FirstFault.{CertFirstFault}
use Rattle.cert_check.specs.LemmaProof.{IsLemmaProof}
use Rattle.cert_check.specs.Published.{PublishedFirstFault}
use Rattle.cert_check.specs.Puzzle.{IsUnique}
use Rattle.cert_check.specs.Tree.{IsProof}
use Rattle.text_check.specs.declared.check.Accepted.{Accepted}
use Rattle.text_check.specs.declared.fault.CheckFault.{CheckFault}
use Rattle.text_check.specs.declared.fault.CheckFault.TheVariants.{Givens, Memory}
use Rattle.text_check.specs.declared.givens_fault.GivensFault.{GivensFault}
use Rattle.text_check.specs.Faults.{cert_fault_of, fault_of}
use Rattle.text_check.specs.Givens.{IsSetOf, cells_of}

-- ---- the givens that are published

-- the cells that a text of givens names, for a picture that was read
abbrev pub cells_in : Rows → List ℕ → Result (List CellNumber) GivensFault
cells_in picture givens = cells_of (length picture) (width_of picture) givens

abbrev pub some_of : Result (List CellNumber) GivensFault → Result (Option (List CellNumber)) GivensFault
some_of (Ok cells) = Ok (Some cells)
some_of (Err fault) = Err fault

-- the cells that are published; without a text of givens, a certificate may give any cells
abbrev pub published_in : Rows → Option (List ℕ) → Result (Option (List CellNumber)) GivensFault
published_in picture None = Ok None
published_in picture (Some givens) = some_of (cells_in picture givens)

-- a set has exactly the cells that are published, where some are
abbrev pub IsSetOfThese : Option (List ℕ) → Option (List CellNumber) → Type 0
IsSetOfThese None None = Unit {0}
IsSetOfThese (Some set) (Some cells) = IsSetOf set cells
IsSetOfThese _ _ = ⊥

-- a set of the cells that are published, or the error of their text
abbrev pub IsPublishedRead : Result (Option (List CellNumber)) GivensFault → Result (Option (List ℕ)) GivensFault
    → Type 0
IsPublishedRead read (Ok set) = (cells : Option (List CellNumber)) × ((read ≡ Ok cells) × IsSetOfThese set cells)
IsPublishedRead read (Err e) = read ≡ Err e

-- each given of a certificate is one of the cells that are published
abbrev pub AreAmong : Option (List CellNumber) → List CellNumber → Type 0
AreAmong None givens = Unit {0}
AreAmong (Some cells) givens = AllByRecursion (Contains cells) givens

-- the first error of a certificate, by the cells that are published
abbrev pub FirstFaultWith : Rows → Option (List CellNumber) → Certificate → Option CertFault → Type 0
FirstFaultWith picture None cert fault = CertFirstFault picture cert fault
FirstFaultWith picture (Some cells) cert fault =
    (set : List ℕ) × (IsSetOf set cells × PublishedFirstFault picture set cert fault)

-- ---- what is shown

-- how many cells are given, where there are some
abbrev pub givens_count_text : List CellNumber → List ℕ
givens_count_text [] = []
givens_count_text (cell ∷ cells) = codes ", givens " ++ decimal (length (cell ∷ cells))

-- the line for a certificate that is accepted
abbrev pub accepted_text : List CellNumber → List ℕ
accepted_text givens = codes "certificate accepted" ++ (givens_count_text givens ++ 10 ∷ [])

-- what is shown for a picture, for what the text of givens gives and for what the certificate's text gives
abbrev pub IsShownBy : {F : Type 0} → (CheckFault → F) → Rows → Result (Option (List CellNumber)) GivensFault
    → Result Certificate CertFault → Result (List ℕ) F → Type 0
IsShownBy has picture (Err fault) certificate shown = shown ≡ Err (has (Givens fault))
IsShownBy has picture (Ok published) (Err fault) shown = shown ≡ Err (has (cert_fault_of fault))
IsShownBy has picture (Ok published) (Ok cert) (Ok text) =
    FirstFaultWith picture published cert None × (text ≡ accepted_text cert.givens)
IsShownBy has picture (Ok published) (Ok cert) (Err fault) =
    (found : CertFault) × (FirstFaultWith picture published cert (Some found) × (fault ≡ has (cert_fault_of found)))

-- What is shown for the texts of a picture, of the givens that are published, if they are passed, and of a certificate.
-- It is the first error of the readers and the checker, as a host has it, or the line where none refuses.
abbrev pub IsCheckBy : {F : Type 0} → (CheckFault → F) → Result Content PpmFault → Option (List ℕ)
    → Result Certificate CertFault → Result (List ℕ) F → Type 0
IsCheckBy has (Err fault) givens certificate shown = shown ≡ Err (has (fault_of fault))
IsCheckBy has (Ok document) givens certificate shown =
    IsShownBy has document.rows (published_in document.rows givens) certificate shown

-- what a check of files shows, by their bytes
abbrev pub IsCheckOf : List ℕ → Option Rgb → Option (List ℕ) → List ℕ → Result (List ℕ) CheckFault → Type 0
IsCheckOf file background givens cert shown =
    IsCheckBy (λ fault. fault) (ppm_of file background) givens (cert_of cert) shown

-- What a call answers where this is to be shown: the line or the error, or out of memory.
abbrev pub Answers : (Result (List ℕ) CheckFault → Type 0) → Result Accepted CheckFault → Type 0
Answers Is (Ok accepted) = Is (Ok accepted.line.items)
Answers Is (Err fault) = (fault ≡ Memory) ⊎ Is (Err fault)

-- a line for each of a certificate's givens, in its order
abbrev pub givens_text : List CellNumber → List ℕ
givens_text givens = flat_map given_text givens

-- the text is that of the givens that a certificate names
pub record AreGivensOf (cert text : List ℕ) : Type 0 where
  pub certificate : Certificate
  pub reads_cert : cert_of cert ≡ Ok certificate
  pub is : text ≡ givens_text certificate.givens

-- ---- what a check means

-- The texts are read, the certificate is a tree that proves the picture, and each of its givens is published.
pub record IsProofOf (file : List ℕ) (background : Option Rgb) (givens : Option (List ℕ)) (cert : List ℕ)
    : Type 0 where
  pub document : Content
  pub published : Option (List CellNumber)
  pub certificate : Certificate
  pub reads_file : ppm_of file background ≡ Ok document
  pub reads_givens : published_in document.rows givens ≡ Ok published
  pub reads_cert : cert_of cert ≡ Ok certificate
  pub is_proof : IsProof document.rows certificate
  pub among : AreAmong published certificate.givens

-- The texts are read, the certificate proves the picture, with lemmas or without, and each of its givens is published.
pub record IsLemmaProofOf (file : List ℕ) (background : Option Rgb) (givens : Option (List ℕ)) (cert : List ℕ)
    : Type 0 where
  pub document : Content
  pub published : Option (List CellNumber)
  pub certificate : Certificate
  pub reads_file : ppm_of file background ≡ Ok document
  pub reads_givens : published_in document.rows givens ≡ Ok published
  pub reads_cert : cert_of cert ≡ Ok certificate
  pub is_proof : IsLemmaProof document.rows certificate
  pub among : AreAmong published certificate.givens

-- The texts are read, and no other picture of that size has the picture's clues and its colours in the cells that are
-- published or, without a text of these, in the givens of the certificate.
pub record IsOnlyPicture (file : List ℕ) (background : Option Rgb) (givens : Option (List ℕ)) (cert : List ℕ)
    : Type 0 where
  pub document : Content
  pub published : Option (List CellNumber)
  pub certificate : Certificate
  pub reads_file : ppm_of file background ≡ Ok document
  pub reads_givens : published_in document.rows givens ≡ Ok published
  pub reads_cert : cert_of cert ≡ Ok certificate
  pub is_unique : IsUnique document.rows (unwrap_or published certificate.givens)
