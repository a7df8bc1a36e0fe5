-- The program's line and status for each error.
use Rattle.std.specs.Prelude.{ℕ, List, ◌++◌, codes, string_bytes}
use Rattle.ppm_text.specs.declared.fault.PpmFault.{PpmFault}
use Rattle.non_text.specs.declared.fault.NonFault.{NonFault}
use Rattle.non_text.specs.declared.fault.NonFault.TheVariants as non
use Rattle.non_text.specs.Faults as nons
use Rattle.edits.specs.Fault.{fault_name}
use Rattle.cert_text.specs.declared.fault.CertFault.{CertFault}
use Rattle.text_check.specs.declared.fault.CheckFault.{CheckFault}
use Rattle.text_check.specs.declared.fault.CheckFault.TheVariants as check
use Rattle.text_check.specs.Faults as checks
use Rattle.command_text.specs.declared.session_fault.SessionFault.{SessionFault}
use Rattle.command_text.specs.declared.session_fault.SessionFault.TheVariants as session
use Rattle.program_options.specs.declared.fault.ProgramFault.{ProgramFault}
use Rattle.program_options.specs.declared.fault.ProgramFault.TheVariants.{Ppm, Non, Edit, NoPicture, Cert}
use Rattle.program_options.specs.declared.fault.ProgramFault.TheVariants.{NoCertificate, Givens}
use Rattle.program_options.specs.declared.fault.ProgramFault.TheVariants.{Memory, TooLong, Words, NotText, HelpBeside, Background}
use Rattle.program_options.specs.declared.fault.ProgramFault.TheVariants.{Allowance, BackgroundOfNon, NoGoal, OneFile, Unfit}
use Rattle.program_options.specs.declared.fault.ProgramFault.TheVariants.{Read, Write}

-- an error of a check
abbrev pub check_fault_of : CheckFault → ProgramFault
check_fault_of (check.Ppm fault) = Ppm fault
check_fault_of (check.Givens fault) = Givens fault
check_fault_of (check.Cert fault) = Cert fault
check_fault_of check.Memory = Memory

-- an error of the P3 text; out of memory is one error wherever it comes from
abbrev pub fault_of : PpmFault → ProgramFault
fault_of fault = check_fault_of (checks.fault_of fault)

-- an error of the .non text, or out of memory
abbrev pub non_fault_of : NonFault → ProgramFault
non_fault_of non.Memory = Memory
non_fault_of fault = Non fault

-- an error of a certificate, or out of memory
abbrev pub cert_fault_of : CertFault → ProgramFault
cert_fault_of fault = check_fault_of (checks.cert_fault_of fault)

-- a session that ended before its input did
abbrev pub session_fault_of : SessionFault → ProgramFault
session_fault_of session.Read = Read
session_fault_of session.Write = Write

-- what follows `nonobench: ` on standard error; a text of the parser is written without that
abbrev pub fault_text : ProgramFault → List ℕ
fault_text (Ppm fault) = checks.fault_text (check.Ppm fault)
fault_text (Non fault) = codes "non " ++ nons.name_of fault
fault_text (Edit fault) = codes "edit " ++ fault_name fault
fault_text NoPicture = codes "no picture has these clues"
fault_text NoGoal = codes "non NoGoal"
fault_text (Cert fault) = checks.fault_text (check.Cert fault)
fault_text NoCertificate = codes "no certificate"
fault_text (Givens fault) = checks.fault_text (check.Givens fault)
fault_text Memory = checks.fault_text check.Memory
fault_text TooLong = codes "input too long"
fault_text (Words text) = string_bytes text
fault_text NotText = codes "a word is not UTF-8"
fault_text HelpBeside = codes "help and version go alone; a name that begins with - needs ./ or --"
fault_text Background = codes "background must be R,G,B"
fault_text BackgroundOfNon = codes "background goes with ppm"
fault_text Allowance = codes "allowance must be 0 to 99999 or off"
fault_text OneFile = codes "givens and certificate go with one file"
fault_text Unfit = codes "unfit"
fault_text Read = codes "read failed"
fault_text Write = codes "write failed"

-- the exit status of the program
abbrev pub status_of : ProgramFault → ℕ
status_of (Words text) = 2
status_of NotText = 2
status_of HelpBeside = 2
status_of Background = 2
status_of BackgroundOfNon = 2
status_of Allowance = 2
status_of OneFile = 2
status_of Read = 3
status_of Write = 3
status_of fault = 1
