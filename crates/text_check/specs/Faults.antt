-- The program's line for each error of a check.
use Rattle.std.specs.Prelude.{ℕ, List, ◌++◌, codes, decimal, unwrap_or}
use Rattle.ppm_text.specs.declared.fault.PpmFault.{PpmFault}
use Rattle.ppm_text.specs.declared.fault.PpmFault.TheVariants as ppm
use Rattle.ppm_text.specs.Faults.{name_of, place_of}
use Rattle.cert_text.specs.declared.fault.CertFault.{CertFault}
use Rattle.cert_text.specs.declared.fault.CertFault.TheVariants as cert
use Rattle.cert_text.specs.Faults as certs
use Rattle.text_check.specs.GivensFaults as givens
use Rattle.text_check.specs.declared.fault.CheckFault.{CheckFault}
use Rattle.text_check.specs.declared.fault.CheckFault.TheVariants.{Ppm, Givens, Cert, Memory}

-- an error of the P3 text; out of memory is one error wherever it comes from
abbrev pub fault_of : PpmFault → CheckFault
fault_of ppm.Memory = Memory
fault_of fault = Ppm fault

-- an error of a certificate, or out of memory
abbrev pub cert_fault_of : CertFault → CheckFault
cert_fault_of cert.Memory = Memory
cert_fault_of fault = Cert fault

-- what follows `nonobench: ` on standard error
abbrev pub fault_text : CheckFault → List ℕ
fault_text (Ppm fault) = codes "ppm " ++ name_of fault ++ codes " at byte " ++ decimal (unwrap_or (place_of fault) 0)
fault_text (Givens fault) =
    codes "givens " ++ givens.name_of fault ++ codes " at line " ++ decimal (givens.line_of fault)
fault_text (Cert fault) =
    codes "certificate " ++ certs.name_of fault ++ codes " at line " ++ decimal (unwrap_or (certs.place_of fault) 0)
fault_text Memory = codes "memory"
