-- A certificate with lemmas proves the same in both forms.
use Rattle.std.proofs.Common.{◌≡◌, ℕ, ◌+◌, List, [], ◌∷◌, length, Option, None, Some, refl, sym, subst, ◌∙◌, inl, inr}
use Rattle.picture.specs.Rows.{Rows}
use Rattle.cert_text.specs.declared.cert_line.CellNumber.{CellNumber}
use Rattle.cert_text.specs.declared.cert_line.CertLine.{CertLine}
use Rattle.cert_text.specs.declared.form.Form.{Form}
use Rattle.cert_text.specs.declared.form.Form.TheVariants.{Lemmas, LemmaRuns}
use Rattle.cert_text.specs.Cert.{AreOfForm, AreOrdered, Certificate, IsCert, certificate, place_of}
use Rattle.cert_check.specs.FirstFault.{CertFirstFault, FirstFault}
use Rattle.cert_check.specs.Puzzle.{base_of}
use Rattle.cert_check.specs.Walk.{Walk, root}
use Rattle.lemma_proof.specs.Making.{IsAsGood}

-- where no line has an error, the places of lines do not matter
none_elsewhere : (picture : Rows) (place other : ℕ → ℕ) (i j : ℕ) (at : Option Walk) (lines : List CertLine) → FirstFault picture at place i lines None → FirstFault picture at other j lines None
none_elsewhere picture place other i j None [] f = f
none_elsewhere picture place other i j (Some walk) [] f = absurd (let e = f in cc)
none_elsewhere picture place other i j None (line ∷ lines) f = absurd (let e = f in cc)
none_elsewhere picture place other i j (Some walk) (line ∷ lines) (inl (found, (has, e))) = absurd (let none = e in cc)
none_elsewhere picture place other i j (Some walk) (line ∷ lines) (inr (next, (moves, f))) = inr (next, (moves, none_elsewhere picture place other (i + 1) (j + 1) next lines f))

single : List CellNumber → List CertLine → Certificate
single givens lines = certificate Lemmas givens lines []

accepted_too : (picture : Rows) (cert : Certificate) → CertFirstFault picture cert None → CertFirstFault picture (single cert.givens cert.lines) None
unfolding single
accepted_too picture cert (inl (found, (has, e))) = absurd (let none = e in cc)
accepted_too picture cert (inr (inside, f)) =
    let start = Some (root (base_of picture cert.givens)) in
    let there : (place : ℕ → ℕ) → FirstFault picture start place 0 cert.lines None = λ place. none_elsewhere picture (place_of cert.runs (2 + length cert.givens)) place 0 0 start cert.lines f in
    inr (inside, there (place_of [] (2 + length cert.givens)))

is_single : (cert : Certificate) → cert.form ≡ LemmaRuns → AreOrdered 0 cert.givens → IsCert cert → IsCert (single cert.givens cert.lines)
unfolding single
is_single cert form ordered is =
    let lines : AreOfForm LemmaRuns cert.lines = subst (λ (f : Form). AreOfForm f cert.lines) form is.lines in
    record { givens = ordered; lines = lines; runs = refl }

single_too : (cert : Certificate) → IsAsGood cert (single cert.givens cert.lines)
unfolding single
single_too cert picture givens made = record {
  form_is = refl;
  is_cert = is_single cert made.form_is made.names.ordered made.is_cert;
  accepted = accepted_too picture cert made.accepted;
  is_proof = record { inside = made.is_proof.inside; trunk = made.is_proof.trunk; lines = made.is_proof.lines; proves = made.is_proof.proves };
  unique = made.unique;
  no_other = made.no_other;
  names = made.names;
}

pub as_good : (cert : Certificate) (givens : List CellNumber) (lines : List CertLine) (runs : List ℕ) (one : Certificate) → givens ≡ cert.givens → lines ≡ cert.lines → runs ≡ []
    → one ≡ certificate Lemmas givens lines runs → IsAsGood cert one
unfolding single
as_good cert givens lines runs one g l r e =
    let same : certificate Lemmas givens lines runs ≡ certificate Lemmas cert.givens cert.lines [] = rw (g, l, r) refl in
    subst (IsAsGood cert) (sym (e ∙ same)) (single_too cert)
