-- Why a certificate was not accepted, as the host sees it.
use Rattle.std.proofs.Common.{◌≡◌, ◌⊎◌, inl, inr, ℕ, List, Result, Err}
use Rattle.program_options.specs.declared.fault.ProgramFault.{ProgramFault}
use Rattle.program_options.specs.declared.fault.ProgramFault.TheVariants.{Memory}
use Rattle.web.specs.Desk.{IsRefused, IsShort, Tells}

pub refused_by : (Is : Result (List ℕ) ProgramFault → Type 0) (fault : ProgramFault) (text : List ℕ) (status : ℕ) → (fault ≡ Memory) ⊎ Is (Err fault)
    → IsShort text status ⊎ Tells fault text status → (fault ≡ Memory → IsShort text status) → IsRefused (λ (f : ProgramFault). Is (Err f)) text status
refused_by Is fault text status (inl short) tells memory = inl (memory short)
refused_by Is fault text status (inr is) (inl four) memory = inl four
refused_by Is fault text status (inr is) (inr told) memory = inr (fault, (is, told))
