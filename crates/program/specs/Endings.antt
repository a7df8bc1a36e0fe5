-- The exit status of the program, and the message of an error.
use Rattle.std.specs.Prelude.{ℕ, List, [], ◌∷◌, ◌++◌, codes, string_bytes, Result, Ok, Err}
use Rattle.program_options.specs.declared.fault.ProgramFault.{ProgramFault}
use Rattle.program_options.specs.declared.fault.ProgramFault.TheVariants.{NoCertificate, Unfit, Words}
use Rattle.program_options.specs.Faults.{fault_text, status_of}

-- 0, or that of the error: 1 for what the program was given, 2 for its words, 3 for reading and writing
abbrev pub status_after : Result (Unit {0}) ProgramFault → ℕ
status_after (Ok done) = 0
status_after (Err fault) = status_of fault

-- A text of the parser as it is, every other error as a line. Nothing is said here where standard output has the word
-- that stands in a certificate's place, or the block that says that a puzzle is unfit.
abbrev pub fault_line : ProgramFault → List ℕ
fault_line (Words text) = string_bytes text
fault_line NoCertificate = []
fault_line Unfit = []
fault_line fault = codes "nonobench: " ++ (fault_text fault ++ 10 ∷ [])

-- what goes to standard error: nothing, or the message of the error
abbrev pub line_after : Result (Unit {0}) ProgramFault → List ℕ
line_after (Ok done) = []
line_after (Err fault) = fault_line fault
