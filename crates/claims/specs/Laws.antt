-- The law of published pairs: what a designer prints is what a site accepts.
use Rattle.std.specs.Prelude.{◌≡◌, ℕ, List, codes, None, Some, Ok}
use Rattle.picture.specs.Rows.{Rows}
use Rattle.picture.specs.declared.rgb.Rgb.{Rgb}
use Rattle.picture.specs.Document.{first_of}
use Rattle.cert_text.specs.Cert.{Certificate}
use Rattle.edits.specs.Design.{Design}
use Rattle.live_audit.specs.Bench.{Seen}
use Rattle.live_audit.specs.Certify.{NamesMarks}
use Rattle.live_audit.specs.Verdict.{IsOtherFor}
use Rattle.command_text.specs.declared.command.Command.TheVariants as command
use Rattle.session.specs.Session.{SaysTo}
use Rattle.text_check.specs.Check.{IsProofOf, accepted_text}
use Rattle.answers.specs.Check.{IsCheckOf}

-- the colour of a document's background
abbrev pub background_in : Design → Rgb
background_in d = first_of d.colours.triples

-- On benches with this history, `write ppm` printed the picture, and
-- `certify` the certificate: it did not print `ambiguous`.
pub record ArePublished (s : Seen) (picture cert : List ℕ) : Type 0 where
  pub at_picture : Seen
  pub behind_picture : Seen
  pub same_picture : at_picture.history ≡ s.history
  pub writes : SaysTo at_picture command.WritePpm picture behind_picture
  pub at_cert : Seen
  pub behind_cert : Seen
  pub same_cert : at_cert.history ≡ s.history
  pub certifies : SaysTo at_cert command.Certify cert behind_cert
  pub not_ambiguous : cert ≡ codes "ambiguous\n" → ⊥

-- With the document's background, the certificate proves the picture: a check shows `certificate accepted`, and
-- the number of the document's givens if it has some. There is no other picture for the document.
pub record AreAccepted (d : Design) (picture cert : List ℕ) : Type 0 where
  pub found : Certificate
  pub givens : NamesMarks d found.givens
  pub check : IsCheckOf picture (Some (background_in d)) None cert (Ok (accepted_text found.givens))
  pub proof : IsProofOf picture (Some (background_in d)) None cert
  pub no_other : (other : Rows) → IsOtherFor d other → ⊥

-- What is published of a bench's document is accepted.
abbrev pub PairsAreAccepted : Seen → Type 0
PairsAreAccepted s = (picture cert : List ℕ) → ArePublished s picture cert → AreAccepted s.history.document picture cert
