-- What the maker of certificates shows for a file.
use Rattle.std.specs.Prelude.{◌≡◌, ◌⊎◌, ℕ, Bool, true, false, List, [], codes, length}
use Rattle.std.specs.Prelude.{Option, None, Some, Result, Ok, Err}
use Rattle.std.specs.List.{AllByRecursion, Contains}
use Rattle.std.specs.Io.KnownBytes.{Appends, Keeps}
use Rattle.std.proofs.Common.{Vec, Global}
use Rattle.picture.specs.Document.{Content}
use Rattle.picture.specs.Rows.{Rows, width_of}
use Rattle.picture.specs.Writers.{AppendsFront}
use Rattle.clues.specs.ClueBook.{clues_of}
use Rattle.clues.specs.Solution.{IsOther}
use Rattle.ppm_text.specs.declared.fault.PpmFault.{PpmFault}
use Rattle.ppm_text.specs.Ppm.{ppm_of}
use Rattle.text_check.specs.declared.givens_fault.GivensFault.{GivensFault}
use Rattle.text_check.specs.Givens.{IsSetOf, cells_of}
use Rattle.cert_text.specs.declared.cert_line.CellNumber.{CellNumber}
use Rattle.cert_text.specs.declared.form.Form.{Form}
use Rattle.cert_text.specs.declared.form.Form.TheVariants.{Tree, GivenTree, Lemmas, LemmaRuns}
use Rattle.cert_text.specs.Cert.{Certificate}
use Rattle.cert_text.specs.Reading.{cert_of}
use Rattle.cert_text.specs.WrittenCert.{cert_text}
use Rattle.cert_check.specs.FirstFault.{CertFirstFault}
use Rattle.cert_check.specs.LemmaProof.{IsLemmaProof}
use Rattle.cert_check.specs.Puzzle.{IsNamed, IsUnique}
use Rattle.lemma_proof.specs.Making.{IsMadeProof}
use Rattle.lemma_proof.specs.declared.making.Made.{Made}
use Rattle.lemma_proof.specs.declared.making.Made.TheVariants.{Proof, Other, Undecided}
use Rattle.program_options.specs.declared.fault.ProgramFault.{ProgramFault}
use Rattle.program_options.specs.declared.fault.ProgramFault.TheVariants.{Givens, Memory, NoCertificate, Write}
use Rattle.program_options.specs.declared.options.ProveOptions.{ProveOptions}
use Rattle.program_options.specs.Faults.{fault_of}

-- ---- a certificate

-- of the two forms with lemmas the one that is asked for: `nonolemma 1`, with a single step on each line, or
-- `nonolemma 2`; or the form of a tree
abbrev pub IsAskedForm : Bool → Form → Type 0
IsAskedForm single Tree = Unit {0}
IsAskedForm single GivenTree = Unit {0}
IsAskedForm single Lemmas = single ≡ true
IsAskedForm single LemmaRuns = single ≡ false

-- The text is read as a certificate of the picture in such a form, whose givens are exactly these cells, of which there
-- is a set, and no line of it has an error. So no other picture has the clues and the picture's colours in these cells.
pub record IsProofText (picture : Rows) (cells : List CellNumber) (single : Bool) (text : List ℕ) : Type 0 where
  pub cert : Certificate
  pub reads : cert_of text ≡ Ok cert
  pub form : IsAskedForm single cert.form
  pub accepted : CertFirstFault picture cert None
  pub is_proof : IsLemmaProof picture cert
  pub set : List ℕ
  pub is_set : IsSetOf set cells
  pub published : AllByRecursion (Contains cells) cert.givens
  pub all_given : (row col : ℕ) → IsNamed cells row col → IsNamed cert.givens row col
  pub unique : IsUnique picture cells

-- ---- what is shown

-- another picture of that size has the clues and the picture's colours in these cells
abbrev pub HasAnother : Rows → List CellNumber → Type 0
HasAnother picture cells = (other : Rows) × IsOther (clues_of picture) (IsNamed cells) picture other

abbrev pub ambiguous_text : List ℕ
ambiguous_text = codes "ambiguous\n"

abbrev pub undecided_text : List ℕ
undecided_text = codes "undecided\n"

-- What is shown for a picture with these givens, and whether it is a certificate. Else there is another picture; or,
-- unless the search was to be complete, neither was found.
abbrev pub Proves : Rows → List CellNumber → ProveOptions → List ℕ → Bool → Type 0
Proves picture cells options text true = IsProofText picture cells options.single text
Proves picture cells options text false =
    ((text ≡ ambiguous_text) × HasAnother picture cells) ⊎ ((text ≡ undecided_text) × (options.complete ≡ false))

-- the cells that a text of givens names in a picture, or none without a text
abbrev pub given_cells : Rows → Option (List ℕ) → Result (List CellNumber) GivensFault
given_cells picture None = Ok []
given_cells picture (Some text) = cells_of (length picture) (width_of picture) text

-- what is to be shown for a picture and its givens: the error of these, or what is shown for them
abbrev pub IsProveIn : Rows → Result (List CellNumber) GivensFault → ProveOptions
    → Result (List ℕ × Bool) ProgramFault → Type 0
IsProveIn picture (Err fault) options shown = shown ≡ Err (Givens fault)
IsProveIn picture (Ok cells) options (Ok shown) = Proves picture cells options shown.0 shown.1
IsProveIn picture (Ok cells) options (Err fault) = ⊥

-- What is to be shown for a picture's text and that of the givens: the error of the first of the two readers that
-- refuses, or what is shown for the picture.
abbrev pub IsProve : Result Content PpmFault → Option (List ℕ) → ProveOptions
    → Result (List ℕ × Bool) ProgramFault → Type 0
IsProve (Err fault) givens options shown = shown ≡ Err (fault_of fault)
IsProve (Ok document) givens options shown =
    IsProveIn document.rows (given_cells document.rows givens) options shown

-- what is shown for a file and the text of the givens, by their bytes, and whether it is a certificate
abbrev pub IsProveOf : List ℕ → Option (List ℕ) → ProveOptions → Result (List ℕ × Bool) ProgramFault → Type 0
IsProveOf file givens options shown = IsProve (ppm_of file options.background) givens options shown

-- ---- what a call writes

-- What a call answers where this is to be shown: the text, and whether it is a certificate; or the error, or out of
-- memory.
abbrev pub AnswersShown : (Result (List ℕ × Bool) ProgramFault → Type 0)
    → Result (Vec ℕ Global × Bool) ProgramFault → Type 0
AnswersShown Is (Ok shown) = Is (Ok (shown.0.items, shown.1))
AnswersShown Is (Err fault) = (fault ≡ Memory) ⊎ Is (Err fault)

-- What a call wrote where this is to be shown: the certificate; with the error `NoCertificate`, the word that is shown
-- in its place; after a write error, a prefix of one of them; after any other error nothing.
abbrev pub WritesProof : Option (List ℕ) → Option (List ℕ) → Result (Unit {0}) ProgramFault
    → (Result (List ℕ × Bool) ProgramFault → Type 0) → Type 0
WritesProof old new (Ok done) Is = (text : List ℕ) × (Is (Ok (text, true)) × Appends old new text)
WritesProof old new (Err fault) Is =
    ((text : List ℕ) × ((fault ≡ NoCertificate) × (Is (Ok (text, false)) × Appends old new text)))
    ⊎ (((text : List ℕ) × ((fault ≡ Write) × ((proves : Bool) × (Is (Ok (text, proves)) × AppendsFront old new text))))
    ⊎ (((fault ≡ Memory) ⊎ Is (Err fault)) × Keeps old new))

-- ---- the forms of a certificate that was made

-- the form in which a certificate is shown
abbrev pub shown_form : Bool → Form → Form
shown_form true LemmaRuns = Lemmas
shown_form single form = form

-- what is shown for a certificate: its text in one of the forms, in which it proves the same
abbrev pub IsCertShown : Bool → Certificate → List ℕ → Type 0
IsCertShown single cert text =
    (shown : Certificate) × (((picture : Rows) (givens : List ℕ) → IsMadeProof picture givens cert.form cert
    → IsMadeProof picture givens (shown_form single cert.form) shown) × (text ≡ cert_text shown))

-- what is shown for what was made, and whether it is a certificate
abbrev pub IsShownFor : Bool → Made → List ℕ → Bool → Type 0
IsShownFor single (Proof cert) text proves = IsCertShown single cert text × (proves ≡ true)
IsShownFor single (Other other) text proves = (text ≡ ambiguous_text) × (proves ≡ false)
IsShownFor single Undecided text proves = (text ≡ undecided_text) × (proves ≡ false)
