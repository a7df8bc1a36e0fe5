-- What the program shows where a check of texts refuses.
use Rattle.std.proofs.Common.{◌≡◌, ◌⊎◌, ℕ, List, Option, Result, Ok, Err, ap, inl, inr}
use Rattle.picture.specs.declared.rgb.Rgb.{Rgb}
use Rattle.picture.specs.Document.{Content}
use Rattle.picture.specs.Rows.{Rows}
use Rattle.ppm_text.specs.declared.fault.PpmFault.{PpmFault}
use Rattle.ppm_text.specs.Ppm.{ppm_of}
use Rattle.cert_text.specs.declared.cert_line.CellNumber.{CellNumber}
use Rattle.cert_text.specs.declared.fault.CertFault.{CertFault}
use Rattle.cert_text.specs.Cert.{Certificate}
use Rattle.cert_text.specs.Reading.{cert_of}
use Rattle.text_check.specs.declared.givens_fault.GivensFault.{GivensFault}
use Rattle.program_options.specs.declared.fault.ProgramFault.{ProgramFault}
use Rattle.program_options.specs.declared.fault.ProgramFault.TheVariants.{Memory}
use Rattle.program_options.specs.Faults.{check_fault_of}
use Rattle.text_check.specs.declared.fault.CheckFault.{CheckFault}
use Rattle.text_check.specs.declared.fault.CheckFault.TheVariants as check
use Rattle.text_check.specs.Check as texts
use Rattle.answers.specs.Check.{IsCheck, IsCheckOf}

-- an error as the program has it
abbrev same : {X : Type 0} → Result X CheckFault → Result X ProgramFault
same (Ok x) = Ok x
same (Err fault) = Err (check_fault_of fault)

shown : (picture : Rows) (published : Result (Option (List CellNumber)) GivensFault) (cert : Result Certificate CertFault) (fault : CheckFault)
    → texts.IsShownBy (λ f. f) picture published cert (Err fault) → texts.IsShownBy check_fault_of picture published cert (Err (check_fault_of fault))
shown picture (Err f) cert fault is = ap same is
shown picture (Ok published) (Err f) fault is = ap same is
shown picture (Ok published) (Ok cert) fault is = (is.0, (is.1.0, ap check_fault_of is.1.1))

checked : (read : Result Content PpmFault) (givens : Option (List ℕ)) (cert : Result Certificate CertFault) (fault : CheckFault) → texts.IsCheckBy (λ f. f) read givens cert (Err fault)
    → IsCheck read givens cert (Err (check_fault_of fault))
checked (Err f) givens cert fault is = ap same is
checked (Ok document) givens cert fault is = shown document.rows (texts.published_in document.rows givens) cert fault is

pub checked_by : (file : List ℕ) (background : Option Rgb) (givens : Option (List ℕ)) (cert : List ℕ) (fault : CheckFault) (told : ProgramFault) → told ≡ check_fault_of fault
    → (fault ≡ check.Memory) ⊎ texts.IsCheckOf file background givens cert (Err fault) → (told ≡ Memory) ⊎ IsCheckOf file background givens cert (Err told)
checked_by file background givens cert fault told is (inl short) = inl (rw (is, short) cc)
checked_by file background givens cert fault told is (inr shows) = inr (rw is (checked (ppm_of file background) givens (cert_of cert) fault shows))

-- ---- a certificate that is accepted

shown_line : (picture : Rows) (published : Result (Option (List CellNumber)) GivensFault) (cert : Result Certificate CertFault) (line : List ℕ)
    → texts.IsShownBy (λ f. f) picture published cert (Ok line) → texts.IsShownBy check_fault_of picture published cert (Ok line)
shown_line picture (Err f) cert line is = absurd (let e = is in cc)
shown_line picture (Ok published) (Err f) line is = absurd (let e = is in cc)
shown_line picture (Ok published) (Ok cert) line is = is

line_in : (read : Result Content PpmFault) (givens : Option (List ℕ)) (cert : Result Certificate CertFault) (line : List ℕ) → texts.IsCheckBy (λ f. f) read givens cert (Ok line)
    → IsCheck read givens cert (Ok line)
line_in (Err f) givens cert line is = absurd (let e = is in cc)
line_in (Ok document) givens cert line is = shown_line document.rows (texts.published_in document.rows givens) cert line is

pub line_by : (file : List ℕ) (background : Option Rgb) (givens : Option (List ℕ)) (cert line : List ℕ) → texts.IsCheckOf file background givens cert (Ok line)
    → IsCheckOf file background givens cert (Ok line)
line_by file background givens cert line is = line_in (ppm_of file background) givens (cert_of cert) line is
