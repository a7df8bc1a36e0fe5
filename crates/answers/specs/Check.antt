-- What the program shows for the check of a certificate, and what it writes.
use Rattle.std.specs.Prelude.{◌≡◌, ◌⊎◌, ℕ, List, Option, Result, Ok, Err}
use Rattle.std.specs.Io.KnownBytes.{Appends, Keeps}
use Rattle.picture.specs.declared.rgb.Rgb.{Rgb}
use Rattle.picture.specs.Document.{Content}
use Rattle.picture.specs.Writers.{AppendsFront}
use Rattle.ppm_text.specs.declared.fault.PpmFault.{PpmFault}
use Rattle.ppm_text.specs.Ppm.{ppm_of}
use Rattle.cert_text.specs.declared.fault.CertFault.{CertFault}
use Rattle.cert_text.specs.Cert.{Certificate}
use Rattle.cert_text.specs.Reading.{cert_of}
use Rattle.program_options.specs.declared.fault.ProgramFault.{ProgramFault}
use Rattle.program_options.specs.declared.fault.ProgramFault.TheVariants.{Memory, Write}
use Rattle.program_options.specs.Faults.{check_fault_of}
use Rattle.text_check.specs.Check.{IsCheckBy}

-- what is to be shown for the texts of a picture, of published givens and of a certificate: the line, or the program's
-- error
abbrev pub IsCheck : Result Content PpmFault → Option (List ℕ) → Result Certificate CertFault
    → Result (List ℕ) ProgramFault → Type 0
IsCheck read givens cert shown = IsCheckBy check_fault_of read givens cert shown

-- what a check of files shows, by their bytes
abbrev pub IsCheckOf : List ℕ → Option Rgb → Option (List ℕ) → List ℕ → Result (List ℕ) ProgramFault → Type 0
IsCheckOf file background givens cert shown =
    IsCheckBy check_fault_of (ppm_of file background) givens (cert_of cert) shown

-- What a call wrote where this is to be shown: the text; after a write error a prefix of it; after any other error
-- nothing.
abbrev pub WritesBy : Option (List ℕ) → Option (List ℕ) → {X : Type 0} → Result X ProgramFault
    → (Result (List ℕ) ProgramFault → Type 0) → Type 0
WritesBy old new (Ok x) Is = (bytes : List ℕ) × (Is (Ok bytes) × Appends old new bytes)
WritesBy old new (Err fault) Is =
    ((bytes : List ℕ) × ((fault ≡ Write) × (Is (Ok bytes) × AppendsFront old new bytes)))
    ⊎ (((fault ≡ Memory) ⊎ Is (Err fault)) × Keeps old new)
