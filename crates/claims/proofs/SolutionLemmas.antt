-- A check's line without givens, and what is published where nothing is given.
use Rattle.std.proofs.Common.{◌≡◌, ℕ, ◌+◌, ◌-◌, ◌⊎◌, List, [], ◌∷◌, ◌++◌, length, codes, decimal, Option, None, Some, Ok, Err, Result, refl, ap, subst, ◌∙◌, arith, inl, inr, length-append}
use Rattle.std.specs.Prelude.{OnOk, is_ok, true, unwrap_or}
use Rattle.picture.specs.declared.rgb.Rgb.{Rgb}
use Rattle.std.proofs.lemmas.Bool.{cases_eq}
use Rattle.std.specs.List.{AllByRecursion, Contains}
use Rattle.cert_check.proofs.AmongLemmas.{among_first}
use Rattle.picture.specs.Rows.{Rows}
use Rattle.picture.specs.CellSet.{no_cells}
use Rattle.picture.specs.Document.{Content, ordered_of}
use Rattle.clues.specs.ClueBook.{clues_of}
use Rattle.clues.specs.Solution.{IsOnlySolution}
use Rattle.ppm_text.specs.declared.fault.PpmFault.{PpmFault}
use Rattle.ppm_text.specs.Ppm.{ppm_of}
use Rattle.cert_text.specs.declared.cert_line.CellNumber.{CellNumber}
use Rattle.cert_text.specs.declared.fault.CertFault.{CertFault}
use Rattle.cert_text.specs.Cert.{Certificate}
use Rattle.cert_check.specs.Puzzle.{HasCellNumber, IsUnique, numbered}
use Rattle.cert_text.specs.Reading.{cert_of}
use Rattle.edits.specs.Design.{Design}
use Rattle.live_audit.specs.Certify.{IsCertificateFor, NamesMarks, ordered}
use Rattle.program_options.specs.declared.fault.ProgramFault.{ProgramFault}
use Rattle.text_check.specs.declared.givens_fault.GivensFault.{GivensFault}
use Rattle.text_check.specs.Check.{IsOnlyPicture, accepted_text, cells_in, givens_count_text, some_of}
use Rattle.answers.specs.Check.{IsCheck, IsCheckOf}
use Rattle.claims.specs.Laws.{background_in}
use Rattle.claims.specs.Solution.{GivesNothing, IsOnlyPublished, IsSolved, PlainLinesAreOneSolution, nowhere, plain_line}

-- ---- the line

-- the line of a check is the plain one only where the certificate gives no cell
no_givens : (givens : List CellNumber) → plain_line ≡ accepted_text givens → givens ≡ []
no_givens [] e = refl
no_givens (cell ∷ cells) e =
    let front = codes ", givens " in
    let number = decimal (length (cell ∷ cells)) in
    let all = ap (λ (t : List ℕ). length t) e in
    let head = length-append (codes "certificate accepted") (givens_count_text (cell ∷ cells) ++ 10 ∷ []) in
    let tail = length-append (givens_count_text (cell ∷ cells)) (10 ∷ []) in
    let words = length-append front number in
    let a : length plain_line ≡ 21 = refl in
    let b : length (codes "certificate accepted") ≡ 20 = refl in
    let c : length front ≡ 9 = refl in
    absurd (omega arith)

-- a picture that is unique without givens is the only solution
pub only_without : (picture : Rows) → IsUnique picture [] → IsOnlySolution (clues_of picture) nowhere picture
only_without picture unique other s =
    unique other (record {
      is_picture = s.is_picture;
      rows = s.rows;
      columns = s.columns;
      has_clues = s.has_clues;
      keeps_givens = λ row col named. absurd (omega (arith, named.1));
    })

solved : (document : Content) (givens : List CellNumber) → givens ≡ [] → IsUnique document.rows givens → IsOnlySolution (clues_of document.rows) nowhere document.rows
solved document givens e unique = let P : List CellNumber → Type 0 = λ x. IsUnique document.rows x in only_without document.rows (subst P e unique)

-- what is published is known
unique_by : (picture : Rows) (one two : Option (List CellNumber)) (givens : List CellNumber) → one ≡ two → IsUnique picture (unwrap_or one givens) → IsUnique picture (unwrap_or two givens)
unique_by picture one two givens e unique = subst (λ (p : Option (List CellNumber)). IsUnique picture (unwrap_or p givens)) e unique

pub plain_lines : PlainLinesAreOneSolution
plain_lines file background cert only check =
    let P : Result Content PpmFault → Type 0 = λ r. IsCheck r None (cert_of cert) (Ok plain_line) in
    let Q : Result Certificate CertFault → Type 0 = λ r. IsCheck (Ok only.document) None r (Ok plain_line) in
    let known : IsCheck (Ok only.document) None (Ok only.certificate) (Ok plain_line) = subst Q only.reads_cert (subst P only.reads_file check) in
    let none : only.published ≡ None = (let e = only.reads_givens in cc) in
    let unique : IsUnique only.document.rows only.certificate.givens = unique_by only.document.rows only.published None only.certificate.givens none only.is_unique in
    record {
      document = only.document;
      reads_file = only.reads_file;
      one = solved only.document only.certificate.givens (no_givens only.certificate.givens known.1) unique;
    }

-- ---- the givens that are published

some_read : (read : Result (List CellNumber) GivensFault) (published : Option (List CellNumber)) → some_of read ≡ Ok published
    → (cells : List CellNumber) × ((read ≡ Ok cells) × (published ≡ Some cells))
some_read (Ok cells) published e = (cells, (refl, (let s = e in cc)))
some_read (Err f) published e = absurd (let s = e in cc)

pub only_published : (file : List ℕ) (background : Option Rgb) (givens cert : List ℕ) → IsOnlyPicture file background (Some givens) cert → IsOnlyPublished file background givens
only_published file background givens cert only =
    let read = some_read (cells_in only.document.rows givens) only.published only.reads_givens in
    record {
      document = only.document;
      cells = read.0;
      reads_file = only.reads_file;
      reads_givens = read.1.0;
      is_unique = unique_by only.document.rows only.published (Some read.0) only.certificate.givens read.1.1 only.is_unique;
    }

-- what a check that answers Ok means
pub if_accepted : (r : Result (Unit {0}) ProgramFault) (Means : Type 0) → is_ok r ≡ true → OnOk r Means → Means
if_accepted (Ok done) Means e means = means
if_accepted (Err fault) Means e means = absurd (let s = e in cc)

-- ---- what is published

same_row : (a b : List ℕ) → (a ≡ b) ⊎ (a ≡ b → ⊥)
same_row [] [] = inl refl
same_row [] (y ∷ ys) = inr (λ e. absurd cc)
same_row (x ∷ xs) [] = inr (λ e. absurd cc)
same_row (x ∷ xs) (y ∷ ys) = elim (cases_eq x y) [
  | inr d ↦ inr (λ e. d cc)
  | inl e ↦ elim (same_row xs ys) [ inr d ↦ inr (λ f. d cc) | inl f ↦ inl cc ]
]

same_grid : (a b : List (List ℕ)) → (a ≡ b) ⊎ (a ≡ b → ⊥)
same_grid [] [] = inl refl
same_grid [] (y ∷ ys) = inr (λ e. absurd cc)
same_grid (x ∷ xs) [] = inr (λ e. absurd cc)
same_grid (x ∷ xs) (y ∷ ys) = elim (same_row x y) [
  | inr d ↦ inr (λ e. d cc)
  | inl e ↦ elim (same_grid xs ys) [ inr d ↦ inr (λ f. d cc) | inl f ↦ inl cc ]
]

-- a certificate for a document says that its picture is the only one
pub is_unique : (d : Design) (cert : Certificate) → IsCertificateFor (ordered d) cert → IsUnique (ordered d).rows cert.givens
is_unique d cert of other s = elim (same_grid other (ordered d).rows) [
  | inl e ↦ e
  | inr n ↦ absurd (of.no_other other (record {
    solves = record {
      is_picture = s.is_picture;
      rows = s.rows;
      columns = s.columns;
      has_clues = s.has_clues;
      keeps_givens = λ row col given. s.keeps_givens row col ((of.givens.named row col).0 given);
    };
    differs = n;
  }))
]

-- a list of cells of a picture is empty where it names no place
none_named : (picture : Rows) (cells : List CellNumber) → AllByRecursion (HasCellNumber picture) cells → ((row col : ℕ) → Contains cells (numbered row col) → ⊥) → cells ≡ []
none_named picture [] has none = refl
none_named picture (cell ∷ cells) has none =
    let row = cell.row - 1 in
    let col = cell.col - 1 in
    let at : CellNumber = record { row = row + 1; col = col + 1 } in
    let r : row + 1 ≡ cell.row = (let a = has.0.0 in omega arith) in
    let c : col + 1 ≡ cell.col = (let a = has.0.2 in omega arith) in
    let e : at ≡ cell =
    ap (λ (x : ℕ). let y : CellNumber = record { row = x; col = col + 1 } in y) r
    ∙ ap (λ (x : ℕ). let y : CellNumber = record { row = cell.row; col = x } in y) c in
    absurd (none row col (among_first at cell cells e))

pub solved_pair : (d : Design) (picture cert : List ℕ) (found : Certificate)
    → ppm_of picture (Some (background_in d)) ≡ Ok (ordered_of (record { colours = d.colours; rows = d.rows; givens = no_cells })) → cert_of cert ≡ Ok found
    → IsCheckOf picture (Some (background_in d)) None cert (Ok (accepted_text found.givens)) → IsCertificateFor (ordered d) found → NamesMarks d found.givens → IsSolved d picture cert
solved_pair d picture cert found file again check of marks =
    let document = ordered_of (record { colours = d.colours; rows = d.rows; givens = no_cells }) in
    let only : IsOnlyPicture picture (Some (background_in d)) None cert = record {
      document = document;
      published = None;
      certificate = found;
      reads_file = file;
      reads_givens = refl;
      reads_cert = again;
      is_unique = is_unique d found of;
    } in
    let none : GivesNothing d → found.givens ≡ [] = λ nothing. none_named document.rows found.givens of.proof.inside (λ row col named. nothing row col ((marks.named row col).1 named)) in
    let plain : GivesNothing d → IsCheckOf picture (Some (background_in d)) None cert (Ok plain_line) = λ nothing.
    let P : List CellNumber → Type 0 = λ x. IsCheckOf picture (Some (background_in d)) None cert (Ok (accepted_text x)) in
    subst P (none nothing) check
    in
    record { only = only; plain = plain; one = λ nothing. plain_lines picture (Some (background_in d)) cert only (plain nothing) }
