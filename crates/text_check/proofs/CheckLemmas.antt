-- What the check of a certificate says and means, by the texts that were read.
use Rattle.std.proofs.Common.{◌≡◌, ◌⊎◌, ℕ, ◌+◌, ◌-◌, ◌<◌, List, [], ◌∷◌, Option, None, Some, Result, Ok, Err, sym, ap, subst, ◌∙◌, arith, inl, inr, refl, length}
use Rattle.std.specs.Prelude.{IfErr, OnOk, unwrap_or}
use Rattle.std.specs.List.{AllByRecursion, Contains}
use Rattle.picture.specs.declared.rgb.Rgb.{Rgb}
use Rattle.picture.specs.Document.{Content}
use Rattle.picture.specs.Rows.{Rows, width_of}
use Rattle.ppm_text.specs.Ppm.{ppm_of}
use Rattle.cert_text.specs.declared.cert_line.CellNumber.{CellNumber}
use Rattle.cert_text.specs.declared.fault.CertFault.{CertFault}
use Rattle.cert_text.specs.declared.fault.CertFault.TheVariants as certs
use Rattle.cert_text.specs.Cert.{Certificate}
use Rattle.cert_text.specs.Reading.{cert_of}
use Rattle.cert_text.specs.Text.{cell_number}
use Rattle.cert_check.specs.FirstFault.{AnswersFirst}
use Rattle.cert_check.specs.LemmaProof.{IsLemmaProof}
use Rattle.cert_check.specs.Published.{FirstUnpublished, IsPublished, IsPublishedUnique, PublishedFirstFault}
use Rattle.cert_check.specs.Puzzle.{HasCellNumber, IsUnique}
use Rattle.cert_check.specs.Tree.{IsProof}
use Rattle.cert_check.proofs.TreeExactness.{tree_is_none}
use Rattle.text_check.specs.declared.fault.CheckFault.{CheckFault}
use Rattle.text_check.specs.declared.fault.CheckFault.TheVariants.{Memory}
use Rattle.text_check.specs.Faults.{cert_fault_of}
use Rattle.text_check.specs.Givens.{IsRead, IsSetOf, cells_of}
use Rattle.text_check.specs.Check.{AreAmong, FirstFaultWith, IsCheckOf, IsLemmaProofOf, IsOnlyPicture, IsProofOf, IsPublishedRead, IsSetOfThese, accepted_text, cells_in, published_in, some_of}

-- ---- sets of cells

-- the only picture with its colours in a set is the only one with its colours in the cells that the set has
unique_in : (picture : Rows) (set : List ℕ) (cells : List CellNumber) → IsSetOf set cells → IsPublishedUnique picture set → IsUnique picture cells
unique_in picture set cells is unique other s = unique other (record {
  is_picture = s.is_picture;
  rows = s.rows;
  columns = s.columns;
  has_clues = s.has_clues;
  keeps_givens = λ row col has. s.keeps_givens row col ((is row col).0 has);
})

same_cell : (cell : CellNumber) → 0 < cell.row → 0 < cell.col → cell ≡ cell_number (cell.row - 1 + 1) (cell.col - 1 + 1)
same_cell cell r c =
    let row : cell.row ≡ cell.row - 1 + 1 = omega (arith, r) in
    let col : cell.col ≡ cell.col - 1 + 1 = omega (arith, c) in
    λ i. record { row = row i; col = col i }

-- givens that are among the cells are published
pub all_published : (picture : Rows) (set : List ℕ) (cells givens : List CellNumber) → IsSetOf set cells → AllByRecursion (HasCellNumber picture) givens → AllByRecursion (Contains cells) givens
    → AllByRecursion (IsPublished picture set) givens
all_published picture set cells [] is inside among = tt
all_published picture set cells (cell ∷ more) is inside among =
    let named = subst (λ (c : CellNumber). Contains cells c) (same_cell cell inside.0.0 inside.0.2) among.0 in
    ((inside.0, (is (cell.row - 1) (cell.col - 1)).1 named), all_published picture set cells more is inside.1 among.1)

-- no given is unpublished where all are published
all_is_none : (picture : Rows) (set : List ℕ) (n : ℕ) (cells : List CellNumber) (fault : Option CertFault) → AllByRecursion (IsPublished picture set) cells
    → FirstUnpublished picture set n cells fault → fault ≡ None
all_is_none picture set n [] fault all first = first
all_is_none picture set n (cell ∷ cells) fault all (inl (not, is)) = absurd (not all.0)
all_is_none picture set n (cell ∷ cells) fault all (inr (published, first)) = all_is_none picture set (n + 1) cells fault all.1 first

-- a tree that proves the picture is accepted where each of its givens is published
tree_published : (picture : Rows) (set : List ℕ) (cert : Certificate) (r : Result (Unit {0}) CertFault) → AnswersFirst (PublishedFirstFault picture set cert) r → IsProof picture cert
    → AllByRecursion (IsPublished picture set) cert.givens → IfErr r (λ e. e ≡ certs.Memory)
tree_published picture set cert (Ok done) first proof all = tt
tree_published picture set cert (Err e) (inl memory) proof all = memory
tree_published picture set cert (Err e) (inr (inl (found, (first, same)))) proof all = absurd (let e = tree_is_none picture cert proof (Some found) first in cc)
tree_published picture set cert (Err e) (inr (inr (none, first))) proof all = absurd (let e = all_is_none picture set 2 cert.givens (Some e) all first in cc)

-- ---- a check by a set of the cells that are published

pub any_unique : (picture : Rows) (cert : Certificate) (r : Result (Unit {0}) CertFault) (cells : Option (List CellNumber)) → IsSetOfThese None cells
    → OnOk r (IsUnique picture cert.givens) → OnOk r (IsUnique picture (unwrap_or cells cert.givens))
any_unique picture cert r (Some cells) is unique = absurd is
any_unique picture cert r None is unique = unique

pub set_only : (picture : Rows) (set : List ℕ) (cert : Certificate) (r : Result (Unit {0}) CertFault) (cells : Option (List CellNumber)) → IsSetOfThese (Some set) cells
    → AnswersFirst (PublishedFirstFault picture set cert) r → IsProof picture cert → AreAmong cells cert.givens → IfErr r (λ e. e ≡ certs.Memory)
set_only picture set cert r None is first proof among = absurd is
set_only picture set cert r (Some cells) is first proof among = tree_published picture set cert r first proof (all_published picture set cells cert.givens is proof.inside among)

pub set_only_lemmas : (picture : Rows) (set : List ℕ) (cert : Certificate) (r : Result (Unit {0}) CertFault) (cells : Option (List CellNumber)) → IsSetOfThese (Some set) cells
    → (IsLemmaProof picture cert → AllByRecursion (IsPublished picture set) cert.givens → IfErr r (λ e. e ≡ certs.Memory))
    → IsLemmaProof picture cert → AreAmong cells cert.givens → IfErr r (λ e. e ≡ certs.Memory)
set_only_lemmas picture set cert r None is only proof among = absurd is
set_only_lemmas picture set cert r (Some cells) is only proof among = only proof (all_published picture set cells cert.givens is proof.inside among)

pub set_unique : (picture : Rows) (set : List ℕ) (cert : Certificate) (r : Result (Unit {0}) CertFault) (cells : Option (List CellNumber)) → IsSetOfThese (Some set) cells
    → OnOk r (IsPublishedUnique picture set) → OnOk r (IsUnique picture (unwrap_or cells cert.givens))
set_unique picture set cert r None is unique = absurd is
set_unique picture set cert (Err e) (Some cells) is unique = tt
set_unique picture set cert (Ok done) (Some cells) is unique = unique_in picture set cells is unique

-- ---- what was read

-- the set of the cells that a text of givens names
pub read_some : (picture : Rows) (givens : Option (List ℕ)) (text set : List ℕ) (height width : ℕ) → givens ≡ Some text → height ≡ length picture → width ≡ width_of picture
    → IsRead (cells_of height width text) (Ok set) → IsPublishedRead (published_in picture givens) (Ok (Some set))
read_some picture givens text set height width is tall wide read =
    let there : IsRead (cells_in picture text) (Ok set) = rw (tall, wide) at read in
    let named : published_in picture (Some text) ≡ Ok (Some there.0) = ap some_of there.1.0 in
    let P : Option (List ℕ) → Type 0 = λ g. published_in picture g ≡ Ok (Some there.0) in
    (Some there.0, (subst P (sym is) named, there.1.1))

module _ (file text : List ℕ) (background : Option Rgb) (givens : Option (List ℕ)) (document : Content) (published : Option (List CellNumber)) (certificate : Certificate)
    (reads_file : ppm_of file background ≡ Ok document) (reads_givens : published_in document.rows givens ≡ Ok published) (reads_cert : cert_of text ≡ Ok certificate) where
  -- a certificate that the checker refuses
  pub refused_is_shown : (fault : CertFault) (shown : CheckFault) → (fault ≡ certs.Memory) ⊎ FirstFaultWith document.rows published certificate (Some fault) → shown ≡ cert_fault_of fault
      → (shown ≡ Memory) ⊎ IsCheckOf file background givens text (Err shown)
  refused_is_shown fault shown first is = elim first [
    | inl m ↦ inl (is ∙ ap cert_fault_of m)
    | inr f ↦ inr (rw (reads_file, reads_givens, reads_cert) (fault, (f, is)))
  ]

  -- and one that it accepts
  pub accepted_is_shown : (line : List ℕ) → FirstFaultWith document.rows published certificate None → line ≡ accepted_text certificate.givens → IsCheckOf file background givens text (Ok line)
  accepted_is_shown line first is = rw (reads_file, reads_givens, reads_cert) (first, is)

  -- what is read of the texts again is the same
  again : (P : Rows → Certificate → Type 0) (d : Content) (cells : Option (List CellNumber)) (c : Certificate) → ppm_of file background ≡ Ok d → published_in d.rows givens ≡ Ok cells
      → cert_of text ≡ Ok c → P d.rows c → AreAmong cells c.givens → P document.rows certificate × AreAmong published certificate.givens
  again P d cells c file_is givens_is cert_is proof among =
      let same : d ≡ document = (let e = sym file_is ∙ reads_file in cc) in
      let same_cert : c ≡ certificate = (let e = sym cert_is ∙ reads_cert in cc) in
      let found : published_in document.rows givens ≡ Ok cells = subst (λ (x : Content). published_in x.rows givens ≡ Ok cells) same givens_is in
      let same_cells : cells ≡ published = (let e = sym found ∙ reads_givens in cc) in
      let one : P document.rows c = subst (λ (x : Content). P x.rows c) same proof in
      let some : AreAmong published c.givens = subst (λ (x : Option (List CellNumber)). AreAmong x c.givens) same_cells among in
      (subst (λ (x : Certificate). P document.rows x) same_cert one, subst (λ (x : Certificate). AreAmong published x.givens) same_cert some)

  -- a certificate that is refused proves nothing
  pub refused_only : (fault : CertFault) (shown : CheckFault) → (IsProof document.rows certificate → AreAmong published certificate.givens → fault ≡ certs.Memory) → shown ≡ cert_fault_of fault
      → IsProofOf file background givens text → shown ≡ Memory
  refused_only fault shown only is p =
      let same = again IsProof p.document p.published p.certificate p.reads_file p.reads_givens p.reads_cert p.is_proof p.among in
      is ∙ ap cert_fault_of (only same.0 same.1)

  pub refused_only_lemmas : (fault : CertFault) (shown : CheckFault) → (IsLemmaProof document.rows certificate → AreAmong published certificate.givens → fault ≡ certs.Memory)
      → shown ≡ cert_fault_of fault → IsLemmaProofOf file background givens text → shown ≡ Memory
  refused_only_lemmas fault shown only is p =
      let same = again IsLemmaProof p.document p.published p.certificate p.reads_file p.reads_givens p.reads_cert p.is_proof p.among in
      is ∙ ap cert_fault_of (only same.0 same.1)

  -- the picture of one that is accepted is the only one
  pub accepted_is_only : IsUnique document.rows (unwrap_or published certificate.givens) → IsOnlyPicture file background givens text
  accepted_is_only unique = record {
    document = document;
    published = published;
    certificate = certificate;
    reads_file = reads_file;
    reads_givens = reads_givens;
    reads_cert = reads_cert;
    is_unique = unique;
  }
