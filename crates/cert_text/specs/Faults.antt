-- The names of the errors, and the lines that they carry.
use Rattle.std.specs.Prelude.{ℕ, List, codes, Option, Some, None}
use Rattle.cert_text.specs.declared.fault.CertFault.{CertFault}
use Rattle.cert_text.specs.declared.fault.CertFault.TheVariants.{NotCert, BadLine, Place, NoLemma, Misplaced, Full}
use Rattle.cert_text.specs.declared.fault.CertFault.TheVariants.{NotDead, NotDone, Ended, Trailing, Memory}
use Rattle.cert_text.specs.declared.fault.CertFault.TheVariants.{UnpublishedGiven}

-- the name, and the line in error, where the error has one
abbrev pub told_of : CertFault → List ℕ × Option ℕ
told_of (NotCert line) = (codes "NotCert", Some line)
told_of (BadLine line) = (codes "BadLine", Some line)
told_of (Place line) = (codes "Place", Some line)
told_of (NoLemma line) = (codes "NoLemma", Some line)
told_of (Misplaced line) = (codes "Misplaced", Some line)
told_of (Full line) = (codes "Full", Some line)
told_of (NotDead line) = (codes "NotDead", Some line)
told_of (NotDone line) = (codes "NotDone", Some line)
told_of (Ended line) = (codes "Ended", Some line)
told_of (Trailing line) = (codes "Trailing", Some line)
told_of Memory = (codes "Memory", None)
told_of (UnpublishedGiven line) = (codes "UnpublishedGiven", Some line)

abbrev pub name_of : CertFault → List ℕ
name_of fault = (told_of fault).0

abbrev pub place_of : CertFault → Option ℕ
place_of fault = (told_of fault).1
