-- What a file is opened as.
use Rattle.std.specs.Prelude.{◌≡◌, ◌⊎◌, ℕ, Bool, true, false, List, [], ◌∷◌, length, Option, None, Some, Result, Ok}
use Rattle.std.specs.Prelude.{Err}
use Rattle.picture.specs.declared.document.Document.{Document}
use Rattle.picture.specs.declared.rgb.Rgb.{Rgb}
use Rattle.picture.specs.CellSet.{no_cells}
use Rattle.picture.specs.Palette.{Colours}
use Rattle.picture.specs.Rows.{width_of, Rows}
use Rattle.clues.specs.ClueBook.{Clues}
use Rattle.ppm_text.specs.Ppm.{ppm_of}
use Rattle.non_text.specs.declared.fault.NonFault.{NonFault}
use Rattle.non_text.specs.declared.non_puzzle.NonPuzzle.{NonPuzzle}
use Rattle.non_text.specs.Puzzle.{non_of}
use Rattle.second_search.specs.Other.{FindsFirst}
use Rattle.edits.specs.Design.{Design, design, design_of, marks_of}
use Rattle.program_options.specs.declared.fault.ProgramFault.{ProgramFault}
use Rattle.program_options.specs.declared.fault.ProgramFault.TheVariants.{Memory, NoPicture}
use Rattle.program_options.specs.declared.options.Options.{Options}
use Rattle.program_options.specs.Background.{rgb}
use Rattle.program_options.specs.Faults.{non_fault_of}
use Rattle.answers.specs.Run.{after_edit}

-- white, and black as colour 1
abbrev pub two_colours : Colours
two_colours = record { maxval = 255; triples = rgb 255 255 255 ∷ rgb 0 0 0 ∷ [] }

-- a picture in these colours, without givens
abbrev pub black_on_white : Rows → Design
black_on_white rows = design two_colours rows (marks_of (length rows) (width_of rows) no_cells)

-- the answer of a call that looks for a picture with these clues
abbrev pub FindsPicture : Clues → Result Rows ProgramFault → Type 0
FindsPicture clues (Ok rows) = FindsFirst clues (Some rows)
FindsPicture clues (Err fault) = (fault ≡ Memory) ⊎ ((fault ≡ NoPicture) × FindsFirst clues None)

-- A puzzle with a goal is opened as the goal; one without, as a
-- picture that was found to have the clues, if there is one.
abbrev pub OpensPuzzle : Clues → Option Rows → Result Design ProgramFault → Type 0
OpensPuzzle clues (Some goal) opened = opened ≡ Ok (black_on_white goal)
OpensPuzzle clues None (Ok d) = (rows : Rows) × (FindsFirst clues (Some rows) × (d ≡ black_on_white rows))
OpensPuzzle clues None (Err fault) = (fault ≡ NoPicture) × FindsFirst clues None

abbrev pub OpensRead : Result NonPuzzle NonFault → Result Design ProgramFault → Type 0
OpensRead (Err fault) opened = opened ≡ Err (non_fault_of fault)
OpensRead (Ok puzzle) opened = OpensPuzzle puzzle.clues puzzle.goal opened

-- what a .non text is opened as
abbrev pub OpensNon : List ℕ → Result Design ProgramFault → Type 0
OpensNon text opened = OpensRead (non_of text) opened

-- what a P3 text with this background is opened as
abbrev pub OpensPpm : List ℕ → Option Rgb → Result Design ProgramFault → Type 0
OpensPpm text background opened = opened ≡ after_edit None (ppm_of text background)

abbrev pub OpensAs : Bool → List ℕ → Option Rgb → Result Design ProgramFault → Type 0
OpensAs true file background opened = OpensNon file opened
OpensAs false file background opened = OpensPpm file background opened

-- what a file is opened as
abbrev pub OpensFile : List ℕ → Options → Result Design ProgramFault → Type 0
OpensFile file options opened = OpensAs options.non file options.background opened

-- the answer of a call that opens what `Opens` says, or out of memory
abbrev pub Opened : (Result Design ProgramFault → Type 0) → Result Document ProgramFault → Type 0
Opened Opens (Ok document) = Opens (Ok (design_of document))
Opened Opens (Err fault) = (fault ≡ Memory) ⊎ Opens (Err fault)
