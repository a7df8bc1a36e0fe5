-- What is printed for a command that is refused.
use Rattle.std.specs.Prelude.{ℕ, List, [], ◌∷◌, ◌++◌, codes}
use Rattle.edits.specs.declared.fault.EditFault.{EditFault}
use Rattle.edits.specs.Fault.{fault_name}
use Rattle.session.specs.declared.refusal.Refusal.{Refusal}
use Rattle.session.specs.declared.refusal.Refusal.TheVariants.{Line, Edit, TwoColoursOnly, Memory}
use Rattle.command_text.specs.Faults.{name_of}

-- a line with the name of an error
abbrev pub refused : List ℕ → List ℕ
refused name = codes "refused: " ++ (name ++ 10 ∷ [])

abbrev pub edit_line : EditFault → List ℕ
edit_line fault = refused (fault_name fault)

abbrev pub memory_line : List ℕ
memory_line = refused (codes "Memory")

-- within the crate: the line of a refusal
abbrev pub refusal_line : Refusal → List ℕ
refusal_line (Line fault) = refused (name_of fault)
refusal_line (Edit fault) = edit_line fault
refusal_line TwoColoursOnly = refused (codes "TwoColoursOnly")
refusal_line Memory = memory_line
