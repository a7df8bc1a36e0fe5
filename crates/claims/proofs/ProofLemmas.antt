-- What `prove` shows for a file, read and checked.
use Rattle.std.proofs.Common.{◌≡◌, ◌⊎◌, ℕ, ◌+◌, Bool, true, false, true≢false, List, [], ◌∷◌, Option, None, Some, Ok, Err, Result, refl, sym, ap, subst, ◌∙◌, arith, inl, inr}
use Rattle.std.specs.List.{AllByRecursion, Contains}
use Rattle.picture.specs.Document.{Content}
use Rattle.picture.specs.Rows.{Rows}
use Rattle.clues.specs.ClueBook.{clues_of}
use Rattle.clues.specs.Solution.{IsOnlySolution}
use Rattle.ppm_text.specs.declared.fault.PpmFault.{PpmFault}
use Rattle.ppm_text.specs.Ppm.{ppm_of}
use Rattle.cert_text.specs.declared.fault.CertFault.{CertFault}
use Rattle.cert_text.specs.declared.cert_line.CellNumber.{CellNumber}
use Rattle.cert_check.specs.Published.{FirstUnpublished, IsPublished, PublishedFirstFault}
use Rattle.cert_check.specs.Puzzle.{IsUnique}
use Rattle.cert_text.specs.Cert.{Certificate}
use Rattle.cert_text.specs.Reading.{cert_of}
use Rattle.text_check.specs.declared.givens_fault.GivensFault.{GivensFault}
use Rattle.program_options.specs.declared.options.ProveOptions.{ProveOptions}
use Rattle.program_options.specs.declared.fault.ProgramFault.{ProgramFault}
use Rattle.answers.specs.Prove.{IsProofText, IsProve, IsProveIn, IsProveOf, Proves, ambiguous_text, given_cells}
use Rattle.text_check.specs.Check.{FirstFaultWith, IsShownBy, accepted_text, cells_in, published_in, some_of}
use Rattle.answers.specs.Check.{IsCheck}
use Rattle.program_options.specs.Faults.{check_fault_of}
use Rattle.text_check.proofs.CheckLemmas.{all_published}
use Rattle.claims.specs.Proofs.{AreVerified, AreVerifiedWith, CompleteSearchesDecide, IsDecided, ProofsAreVerified, PublishedProofsAreVerified}
use Rattle.claims.specs.Solution.{nowhere}
use Rattle.claims.proofs.SolutionLemmas.{only_without}

none_contained : (cell : CellNumber) → Contains [] cell → ⊥
none_contained cell m = let l = m.1 in absurd (omega arith)

-- among no cells there is none
none_among : (cells : List CellNumber) → AllByRecursion (Contains []) cells → cells ≡ []
none_among [] all = refl
none_among (cell ∷ cells) all = absurd (none_contained cell all.0)

verified : (file : List ℕ) (options : ProveOptions) (text : List ℕ) (document : Content) → ppm_of file options.background ≡ Ok document
    → IsProofText document.rows [] options.single text
    → AreVerified file options.background text
verified file options text document reads p =
    let none : p.cert.givens ≡ [] = none_among p.cert.givens p.published in
    let line : accepted_text [] ≡ accepted_text p.cert.givens = ap accepted_text (sym none) in
    let shown : IsCheck (Ok document) None (Ok p.cert) (Ok (accepted_text [])) = (p.accepted, line) in
    let P : Result Content PpmFault → Type 0 = λ r. IsCheck r None (Ok p.cert) (Ok (accepted_text [])) in
    let Q : Result Certificate CertFault → Type 0 = λ r. IsCheck (ppm_of file options.background) None r (Ok (accepted_text [])) in
    let U : List CellNumber → Type 0 = λ givens. IsUnique document.rows givens in
    let one : IsOnlySolution (clues_of document.rows) nowhere document.rows = only_without document.rows p.unique in
    record {
      check = subst Q (sym p.reads) (subst P (sym reads) shown);
      proof = record {
        document = document;
        published = None;
        certificate = p.cert;
        reads_file = reads;
        reads_givens = refl;
        reads_cert = p.reads;
        is_proof = p.is_proof;
        among = tt;
      };
      only = record {
        document = document;
        published = None;
        certificate = p.cert;
        reads_file = reads;
        reads_givens = refl;
        reads_cert = p.reads;
        is_unique = subst U (sym none) p.unique;
      };
      one = record { document = document; reads_file = reads; one = one };
    }

-- what is shown for a picture that is read
shown_in : (file : List ℕ) (givens : Option (List ℕ)) (options : ProveOptions) (document : Content) (cells : List CellNumber) (text : List ℕ) (proves : Bool)
    → ppm_of file options.background ≡ Ok document → given_cells document.rows givens ≡ Ok cells → IsProveOf file givens options (Ok (text, proves))
    → Proves document.rows cells options text proves
shown_in file givens options document cells text proves reads names shown =
    let P : Result Content PpmFault → Type 0 = λ r. IsProve r givens options (Ok (text, proves)) in
    let Q : Result (List CellNumber) GivensFault → Type 0 = λ r. IsProveIn document.rows r options (Ok (text, proves)) in
    subst Q names (subst P reads shown)

by : (file : List ℕ) (options : ProveOptions) (text : List ℕ) (read : Result Content PpmFault) → ppm_of file options.background ≡ read → IsProve read None options (Ok (text, true))
    → AreVerified file options.background text
by file options text (Err fault) reads shown = absurd (let e = shown in cc)
by file options text (Ok document) reads shown = verified file options text document reads shown

pub proofs_verified : ProofsAreVerified
proofs_verified file options text shown = by file options text (ppm_of file options.background) refl shown

-- ---- with givens

none_unpublished : (picture : Rows) (set : List ℕ) (n : ℕ) (cells : List CellNumber) → AllByRecursion (IsPublished picture set) cells → FirstUnpublished picture set n cells None
none_unpublished picture set n [] all = refl
none_unpublished picture set n (cell ∷ cells) all = inr (all.0, none_unpublished picture set (n + 1) cells all.1)

verified_with : (file givens : List ℕ) (options : ProveOptions) (text : List ℕ) (document : Content) (cells : List CellNumber) → ppm_of file options.background ≡ Ok document
    → cells_in document.rows givens ≡ Ok cells → IsProofText document.rows cells options.single text
    → AreVerifiedWith file options.background givens text
verified_with file givens options text document cells reads names p =
    let all = all_published document.rows p.set cells p.cert.givens p.is_set p.is_proof.inside p.published in
    let none : PublishedFirstFault document.rows p.set p.cert None = inr (p.accepted, none_unpublished document.rows p.set 2 p.cert.givens all) in
    let first : FirstFaultWith document.rows (Some cells) p.cert None = (p.set, (p.is_set, none)) in
    let line : List ℕ = accepted_text p.cert.givens in
    let shown : IsShownBy check_fault_of document.rows (Ok (Some cells)) (Ok p.cert) (Ok line) = (first, refl) in
    let C : Result (Option (List CellNumber)) GivensFault → Type 0 = λ r. IsShownBy check_fault_of document.rows r (Ok p.cert) (Ok line) in
    let read : published_in document.rows (Some givens) ≡ Ok (Some cells) = ap some_of names in
    let P : Result Content PpmFault → Type 0 = λ r. IsCheck r (Some givens) (Ok p.cert) (Ok line) in
    let Q : Result Certificate CertFault → Type 0 = λ r. IsCheck (ppm_of file options.background) (Some givens) r (Ok line) in
    record {
      named = p.cert.givens;
      check = subst Q (sym p.reads) (subst P (sym reads) (subst C (sym read) shown));
      proof = record {
        document = document;
        published = Some cells;
        certificate = p.cert;
        reads_file = reads;
        reads_givens = read;
        reads_cert = p.reads;
        is_proof = p.is_proof;
        among = p.published;
      };
      only = record {
        document = document;
        published = Some cells;
        certificate = p.cert;
        reads_file = reads;
        reads_givens = read;
        reads_cert = p.reads;
        is_unique = p.unique;
      };
    }

module _ (file givens : List ℕ) (options : ProveOptions) (text : List ℕ) where
  with_cells : (document : Content) (named : Result (List CellNumber) GivensFault) → ppm_of file options.background ≡ Ok document → cells_in document.rows givens ≡ named
      → IsProveIn document.rows named options (Ok (text, true)) → AreVerifiedWith file options.background givens text
  with_cells document (Err fault) reads names shown = absurd (let e = shown in cc)
  with_cells document (Ok cells) reads names shown = verified_with file givens options text document cells reads names shown

  with_document : (read : Result Content PpmFault) → ppm_of file options.background ≡ read → IsProve read (Some givens) options (Ok (text, true))
      → AreVerifiedWith file options.background givens text
  with_document (Err fault) reads shown = absurd (let e = shown in cc)
  with_document (Ok document) reads shown = with_cells document (cells_in document.rows givens) reads refl shown

pub published_verified : PublishedProofsAreVerified
published_verified file givens options text shown = with_document file givens options text (ppm_of file options.background) refl shown

-- ---- a complete search

decided_by : (picture : Rows) (cells : List CellNumber) (options : ProveOptions) (text : List ℕ) (proves : Bool) → options.complete ≡ true → Proves picture cells options text proves
    → IsDecided picture cells text proves
decided_by picture cells options text true complete p = record { exact = (λ is. p.unique, λ unique. refl); other = λ not. absurd (true≢false not) }
decided_by picture cells options text false complete (inl (word, other)) = record {
  exact = (λ is. absurd (true≢false (sym is)), λ unique. absurd (other.1.differs (unique other.0 other.1.solves)));
  other = λ not. word;
}
decided_by picture cells options text false complete (inr (word, bounded)) = absurd (true≢false (sym complete ∙ bounded))

pub complete_decides : CompleteSearchesDecide
complete_decides file givens options document cells text proves reads names complete shown =
    decided_by document.rows cells options text proves complete (shown_in file givens options document cells text proves reads names shown)
