-- An error with the number of another line.
use Rattle.std.specs.Prelude.{ℕ}
use Rattle.cert_text.specs.declared.fault.CertFault.{CertFault}
use Rattle.cert_text.specs.declared.fault.CertFault.TheVariants.{NotCert, BadLine, Place, NoLemma, Misplaced, Full}
use Rattle.cert_text.specs.declared.fault.CertFault.TheVariants.{NotDead, NotDone, Ended, Trailing, Memory}
use Rattle.cert_text.specs.declared.fault.CertFault.TheVariants.{UnpublishedGiven}

abbrev pub moved_to : CertFault → ℕ → CertFault
moved_to (NotCert n) line = NotCert line
moved_to (BadLine n) line = BadLine line
moved_to (Place n) line = Place line
moved_to (NoLemma n) line = NoLemma line
moved_to (Misplaced n) line = Misplaced line
moved_to (Full n) line = Full line
moved_to (NotDead n) line = NotDead line
moved_to (NotDone n) line = NotDone line
moved_to (Ended n) line = Ended line
moved_to (Trailing n) line = Trailing line
moved_to (UnpublishedGiven n) line = UnpublishedGiven line
moved_to Memory line = Memory
