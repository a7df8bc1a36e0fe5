-- The line of an error.
use Rattle.std.proofs.Common.{◌≡◌, [], ◌∷◌, ◌++◌, codes, String, Global, refl}
use Rattle.program_options.specs.declared.fault.ProgramFault.{ProgramFault}
use Rattle.program_options.specs.declared.fault.ProgramFault.TheVariants.{NoCertificate, Unfit, Words}
use Rattle.program_options.specs.Faults.{fault_text}
use Rattle.program.specs.Endings.{fault_line}

-- every error but the parser's, and those of a missing certificate and of an unfit puzzle, has a line that begins with the program's name
pub named : (fault : ProgramFault) → ((text : String Global) → fault ≡ Words text → ⊥) → (fault ≡ NoCertificate → ⊥) → (fault ≡ Unfit → ⊥)
    → fault_line fault ≡ codes "nonobench: " ++ (fault_text fault ++ 10 ∷ [])
named (Words text) other made fit = absurd (other text refl)
named NoCertificate other made fit = absurd (made refl)
named Unfit other made fit = absurd (fit refl)
named fault other made fit = refl
