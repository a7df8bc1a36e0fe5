-- The law of printed bytes: what two sessions write, byte for byte, is what a check accepts.
use Rattle.std.specs.Prelude.{◌≡◌, ℕ, false, List, [], Option, Some, codes, Ok}
use Rattle.picture.specs.Rows.{Rows}
use Rattle.live_audit.specs.Bench.{Seen}
use Rattle.session.specs.Refusal.{memory_line}
use Rattle.live_audit.specs.Verdict.{IsOtherFor}
use Rattle.command_text.specs.declared.command.Command.TheVariants as command
use Rattle.session.specs.Session.{Runs, SaysTo}
use Rattle.program_options.specs.declared.options.Options.{Options}
use Rattle.answers.specs.Start.{IsStarted}
use Rattle.claims.specs.Laws.{AreAccepted}

-- A session with this whole input, on a bench in this state, ended without an error and wrote these bytes, which do not
-- say that memory ran out.
pub record HasWritten (input : List ℕ) (at : Seen) (bytes : List ℕ) : Type 0 where
  pub left : Option (List ℕ)
  pub last : Seen
  pub runs : Runs (Some input) left (Some []) (Some bytes) at last (Ok tt)
  pub made : bytes ≡ memory_line → ⊥

-- On benches with this history, the session `write ppm` wrote the picture, and
-- the session `certify` the certificate: it did not write `ambiguous`.
pub record ArePrinted (s : Seen) (picture cert : List ℕ) : Type 0 where
  pub at_picture : Seen
  pub same_picture : at_picture.history ≡ s.history
  pub writes : HasWritten (codes "write ppm\n") at_picture picture
  pub at_cert : Seen
  pub same_cert : at_cert.history ≡ s.history
  pub certifies : HasWritten (codes "certify\n") at_cert cert
  pub not_ambiguous : cert ≡ codes "ambiguous\n" → ⊥

-- What was printed of a bench's document is accepted.
abbrev pub PrintedAreAccepted : Seen → Type 0
PrintedAreAccepted s = (picture cert : List ℕ) → ArePrinted s picture cert → AreAccepted s.history.document picture cert

-- What was printed of benches that were started with a file is accepted.
abbrev pub StartedAreAccepted : Type 0
StartedAreAccepted =
    (file : List ℕ) (options : Options) (s : Seen) → IsStarted file options s → PrintedAreAccepted s

-- Benches that are started with the same P3 file and options have the same history, so the same document.
abbrev pub OneFileIsOneDocument : Type 0
OneFileIsOneDocument = (file : List ℕ) (options : Options) (one other : Seen) → options.non ≡ false
    → IsStarted file options one → IsStarted file options other → one.history ≡ other.history

-- Where there is no other picture for a bench's document, what `certify`
-- and `write ppm` print for it is accepted, so there is a certificate.
abbrev pub UniqueArePublished : Seen → Type 0
UniqueArePublished s =
    ((other : Rows) → IsOtherFor s.history.document other → ⊥)
    → (at_picture behind_picture at_cert behind_cert : Seen) (picture cert : List ℕ)
    → at_picture.history ≡ s.history → SaysTo at_picture command.WritePpm picture behind_picture
    → at_cert.history ≡ s.history → SaysTo at_cert command.Certify cert behind_cert
    → AreAccepted s.history.document picture cert
