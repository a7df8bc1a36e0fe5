-- What `write ppm` and `certify` print, read again.
use Rattle.std.proofs.Common.{◌≡◌, ℕ, List, Option, Some, None, Ok, Result, refl, sym, ap, subst, ◌∙◌, codes}
use Rattle.picture.specs.Rows.{Rows}
use Rattle.picture.specs.declared.document.Document.{Document}
use Rattle.picture.specs.CellSet.{no_cells}
use Rattle.picture.specs.Document.{Content, ordered_of}
use Rattle.picture.specs.Palette.{IsPalette}
use Rattle.picture.specs.Picture.{IsPicture}
use Rattle.ppm_text.specs.declared.fault.PpmFault.{PpmFault}
use Rattle.ppm_text.specs.Ppm.{ppm_of}
use Rattle.ppm_text.specs.RoundTrip as pictures
use Rattle.ppm_text.specs.Text.{ppm_text}
use Rattle.cert_text.specs.declared.fault.CertFault.{CertFault}
use Rattle.cert_text.specs.Cert.{Certificate, IsCert}
use Rattle.cert_text.specs.Reading.{cert_of}
use Rattle.cert_text.specs.WrittenCert as certificates
use Rattle.edits.specs.Design.{Design, design_of}
use Rattle.edits.specs.History.{History}
use Rattle.live_audit.specs.Bench.{Seen}
use Rattle.live_audit.specs.Certify.{Certifies, NamesMarks}
use Rattle.live_audit.specs.Verdict.{IsOtherFor}
use Rattle.session.specs.Texts.{certified_text, content}
use Rattle.program_options.specs.declared.options.Options.{Options}
use Rattle.text_check.specs.Check.{accepted_text}
use Rattle.answers.specs.Check.{IsCheck, IsCheckOf}
use Rattle.answers.specs.Start.{IsStarted}
use Rattle.claims.specs.Laws.{AreAccepted, ArePublished, PairsAreAccepted, background_in}
use Rattle.claims.specs.Printed.{UniqueArePublished}
use Rattle.claims.specs.Solution.{IsSolved, PublishedAreSolved}
use Rattle.claims.proofs.SolutionLemmas.{solved_pair}

-- the document without its givens
abbrev ungiven : Design → Content
ungiven d = record { colours = d.colours; rows = d.rows; givens = no_cells }

-- the pair of a design whose palette and picture are right
pair : ((d : Content) → pictures.IsUngiven d → pictures.IsReadAgain d) → ((cert : Certificate) → IsCert cert → certificates.IsReadAgain cert)
    → (d : Design) (picture cert : List ℕ) (found : Certificate) → IsPalette d.colours → IsPicture d.rows
    → picture ≡ ppm_text (content d) → cert ≡ certificates.cert_text found → Certifies d (Some found) → AreAccepted d picture cert × IsSolved d picture cert
pair seen read d picture cert found palette is p t c =
    let of = c.0 in
    let file : ppm_of picture (Some (background_in d)) ≡ Ok (ordered_of (ungiven d)) =
    ap (λ (bytes : List ℕ). ppm_of bytes (Some (background_in d))) p ∙ seen (ungiven d) (record { palette = palette; picture = is; givens = refl }) in
    let again : cert_of cert ≡ Ok found = ap cert_of t ∙ read found of.is_cert in
    let shown : IsCheck (Ok (ordered_of (ungiven d))) None (Ok found) (Ok (accepted_text found.givens)) = (of.accepted, refl) in
    let P : Result Content PpmFault → Type 0 = λ r. IsCheck r None (Ok found) (Ok (accepted_text found.givens)) in
    let Q : Result Certificate CertFault → Type 0 = λ r. IsCheck (ppm_of picture (Some (background_in d))) None r (Ok (accepted_text found.givens)) in
    let check : IsCheckOf picture (Some (background_in d)) None cert (Ok (accepted_text found.givens)) = subst Q (sym again) (subst P (sym file) shown) in
    let marks : NamesMarks d found.givens = record { in_order = of.givens.in_order; named = of.givens.named } in
    let accepted : AreAccepted d picture cert = record {
      found = found;
      givens = marks;
      check = check;
      proof = record {
        document = ordered_of (ungiven d);
        published = None;
        certificate = found;
        reads_file = file;
        reads_givens = refl;
        reads_cert = again;
        is_proof = of.proof;
        among = tt;
      };
      no_other = c.1;
    } in
    (accepted, solved_pair d picture cert found file again check of marks)

-- where something was found, it is a certificate
certified : ((d : Content) → pictures.IsUngiven d → pictures.IsReadAgain d) → ((cert : Certificate) → IsCert cert → certificates.IsReadAgain cert)
    → (d : Design) (picture cert : List ℕ) (found : Option Certificate) → IsPalette d.colours → IsPicture d.rows
    → picture ≡ ppm_text (content d) → cert ≡ certified_text found → Certifies d found → (cert ≡ codes "ambiguous\n" → ⊥) → AreAccepted d picture cert × IsSolved d picture cert
certified seen read d picture cert None palette is p t c not = absurd (not t)
certified seen read d picture cert (Some found) palette is p t c not = pair seen read d picture cert found palette is p t c

both_of : ((d : Content) → pictures.IsUngiven d → pictures.IsReadAgain d) → ((cert : Certificate) → IsCert cert → certificates.IsReadAgain cert) → (s : Seen)
    → IsPalette s.history.document.colours → IsPicture s.history.document.rows
    → (picture cert : List ℕ) → ArePublished s picture cert → AreAccepted s.history.document picture cert × IsSolved s.history.document picture cert
both_of seen read s colours rows picture cert p =
    let d = s.history.document in
    let shown : picture ≡ ppm_text (content d) = p.writes.0 ∙ ap (λ (h : History). ppm_text (content h.document)) p.same_picture in
    let c = p.certifies in
    let right : Certifies d c.0 = subst (λ (h : History). Certifies h.document c.0) p.same_cert c.1.0 in
    certified seen read d picture cert c.0 colours rows shown c.1.1.0 right p.not_ambiguous

both : ((d : Content) → pictures.IsUngiven d → pictures.IsReadAgain d) → ((cert : Certificate) → IsCert cert → certificates.IsReadAgain cert) → (s : Seen) (document : Document)
    → design_of document ≡ s.history.document → IsPalette document.palette → IsPicture document.picture
    → (picture cert : List ℕ) → ArePublished s picture cert → AreAccepted s.history.document picture cert × IsSolved s.history.document picture cert
both seen read s document e palette is picture cert p =
    let colours : IsPalette s.history.document.colours = subst (λ (x : Design). IsPalette x.colours) e palette in
    let rows : IsPicture s.history.document.rows = subst (λ (x : Design). IsPicture x.rows) e is in
    both_of seen read s colours rows picture cert p

-- a bench that was started with a file
pub started : ((d : Content) → pictures.IsUngiven d → pictures.IsReadAgain d) → ((cert : Certificate) → IsCert cert → certificates.IsReadAgain cert)
    → (file : List ℕ) (options : Options) (s : Seen) → IsStarted file options s → PairsAreAccepted s
started seen read file options s is picture cert p =
    let document : is.document ≡ s.history.document = sym (ap (λ (h : History). h.document) is.begins.history) in
    let colours : IsPalette s.history.document.colours = subst (λ (x : Design). IsPalette x.colours) document is.palette in
    let rows : IsPicture s.history.document.rows = subst (λ (x : Design). IsPicture x.rows) document is.picture in
    (both_of seen read s colours rows picture cert p).0

pub accepted : ((d : Content) → pictures.IsUngiven d → pictures.IsReadAgain d) → ((cert : Certificate) → IsCert cert → certificates.IsReadAgain cert) → (s : Seen) (document : Document)
    → design_of document ≡ s.history.document → IsPalette document.palette → IsPicture document.picture → PairsAreAccepted s
accepted seen read s document e palette is picture cert p = (both seen read s document e palette is picture cert p).0

pub made : ((d : Content) → pictures.IsUngiven d → pictures.IsReadAgain d) → ((cert : Certificate) → IsCert cert → certificates.IsReadAgain cert) → (s : Seen) (document : Document)
    → design_of document ≡ s.history.document → IsPalette document.palette → IsPicture document.picture → PublishedAreSolved s
made seen read s document e palette is picture cert p = (both seen read s document e palette is picture cert p).1

-- ---- where there is no other picture

found_unique : ((d : Content) → pictures.IsUngiven d → pictures.IsReadAgain d) → ((cert : Certificate) → IsCert cert → certificates.IsReadAgain cert)
    → (d : Design) (picture cert : List ℕ) (found : Option Certificate) → IsPalette d.colours → IsPicture d.rows
    → picture ≡ ppm_text (content d) → cert ≡ certified_text found → Certifies d found → ((other : Rows) → IsOtherFor d other → ⊥) → AreAccepted d picture cert
found_unique seen read d picture cert None palette is p t c alone = absurd (alone c.0 c.1)
found_unique seen read d picture cert (Some found) palette is p t c alone = (pair seen read d picture cert found palette is p t c).0

pub unique : ((d : Content) → pictures.IsUngiven d → pictures.IsReadAgain d) → ((cert : Certificate) → IsCert cert → certificates.IsReadAgain cert) → (s : Seen) (document : Document)
    → design_of document ≡ s.history.document → IsPalette document.palette → IsPicture document.picture → UniqueArePublished s
unique seen read s document e palette is alone at_picture behind_picture at_cert behind_cert picture cert same_picture writes same_cert c =
    let d = s.history.document in
    let colours : IsPalette d.colours = subst (λ (x : Design). IsPalette x.colours) e palette in
    let rows : IsPicture d.rows = subst (λ (x : Design). IsPicture x.rows) e is in
    let shown : picture ≡ ppm_text (content d) = writes.0 ∙ ap (λ (h : History). ppm_text (content h.document)) same_picture in
    let right : Certifies d c.0 = subst (λ (h : History). Certifies h.document c.0) same_cert c.1.0 in
    found_unique seen read d picture cert c.0 colours rows shown c.1.1.0 right alone
