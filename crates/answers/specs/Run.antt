-- What the program's run without arguments shows for an input.
use Rattle.std.specs.Prelude.{◌≡◌, ◌⊎◌, ℕ, List, length, Option, None, Some, Result, Ok, Err}
use Rattle.std.specs.Option.{option_map}
use Rattle.std.specs.Io.KnownBytes.{Appends, Keeps}
use Rattle.picture.specs.Document.{Content}
use Rattle.picture.specs.Writers.{AppendsFront}
use Rattle.ppm_text.specs.declared.fault.PpmFault.{PpmFault}
use Rattle.ppm_text.specs.Ppm.{ppm_of}
use Rattle.clues.specs.ClueBook.{clues_of}
use Rattle.picture.specs.Rows.{width_of}
use Rattle.edits.specs.declared.edit.Edit.{Edit}
use Rattle.edits.specs.declared.edit.Edit.TheVariants.{Paint}
use Rattle.edits.specs.declared.fault.EditFault.{EditFault}
use Rattle.edits.specs.Design.{Design, design, marks_of}
use Rattle.edits.specs.Edit.{edited}
use Rattle.edits.specs.Fault.{edit_fault}
use Rattle.program_options.specs.declared.fault.ProgramFault.{ProgramFault}
use Rattle.program_options.specs.declared.fault.ProgramFault.TheVariants.{Edit as Refused, Memory, Write}
use Rattle.program_options.specs.Faults.{fault_of}
use Rattle.report_text.specs.ClueText.{clues_text}

-- the content that was read, as a document with marks for the givens
abbrev pub design_read : Content → Design
design_read d = design d.colours d.rows (marks_of (length d.rows) (width_of d.rows) d.givens)

-- an edit that is refused, or the document after it
abbrev pub edited_by : Option EditFault → Design → Result Design ProgramFault
edited_by None d = Ok d
edited_by (Some fault) d = Err (Refused fault)

-- the document that was read, after an edit where one is asked for
abbrev pub after_edit : Option Edit → Result Content PpmFault → Result Design ProgramFault
after_edit edit (Err fault) = Err (fault_of fault)
after_edit None (Ok d) = Ok (design_read d)
after_edit (Some edit) (Ok d) = edited_by (edit_fault (design_read d) edit) (edited (design_read d) edit)

abbrev pub clues_shown : Result Design ProgramFault → Result (List ℕ) ProgramFault
clues_shown (Err fault) = Err fault
clues_shown (Ok d) = Ok (clues_text (clues_of d.rows))

-- a row, a column and a colour as an edit
abbrev pub paint_of : ℕ × ℕ × ℕ → Edit
paint_of p = Paint p.0 p.1 p.2

-- the text for an input, or the error
abbrev pub shown_for : List ℕ → Option Edit → Result (List ℕ) ProgramFault
shown_for bytes edit = clues_shown (after_edit edit (ppm_of bytes None))

abbrev pub shown : List ℕ → Option (ℕ × ℕ × ℕ) → Result (List ℕ) ProgramFault
shown bytes paint = shown_for bytes (option_map paint_of paint)

-- What a call wrote, given what was to be shown: the text; after a write error a prefix of it; after any other error
-- nothing.
abbrev pub Writes : Option (List ℕ) → Option (List ℕ) → {X : Type 0} → Result X ProgramFault
    → Result (List ℕ) ProgramFault → Type 0
Writes old new (Ok x) text = (bytes : List ℕ) × (text ≡ Ok bytes) × Appends old new bytes
Writes old new (Err fault) text =
    ((bytes : List ℕ) × (fault ≡ Write) × (text ≡ Ok bytes) × AppendsFront old new bytes)
    ⊎ (((fault ≡ Memory) ⊎ (text ≡ Err fault)) × Keeps old new)
