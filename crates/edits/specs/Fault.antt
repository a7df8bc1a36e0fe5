-- Why an edit is refused: the first error in order whose condition holds.
use Rattle.std.specs.Prelude.{ℕ, Bool, ◌&&◌, ◌||◌, not, nat_le, nat_lt, ◌==◌, nat_eq, List, [], ◌∷◌, ◌++◌, length}
use Rattle.std.specs.Prelude.{Option, option_map, codes, remove}
use Rattle.std.specs.List.{find, list_any}
use Rattle.std.specs.Cmp.Lexicographic.{pointwise}
use Rattle.picture.specs.declared.picture.TheConstants.{MAX_SIDE, MAX_COLOURS}
use Rattle.picture.specs.Palette.{Colours, fits, rgb_eq}
use Rattle.picture.specs.Rows.{width_of, lines_along, Rows}
use Rattle.edits.specs.declared.edit.Edit.{Edit}
use Rattle.edits.specs.declared.edit.Edit.TheVariants.{Paint, Fill, Recolour, InsertLine, DeleteLine, SwapLines}
use Rattle.edits.specs.declared.edit.Edit.TheVariants.{AddColour, SetColour, Pin, Unpin}
use Rattle.edits.specs.declared.fault.EditFault.{EditFault}
use Rattle.edits.specs.declared.fault.EditFault.TheVariants.{Place, Colour, TooLarge, LastLine, SampleOver, PaletteFull}
use Rattle.edits.specs.declared.fault.EditFault.TheVariants.{DuplicateColour, Background, NoChange, UndoEmpty}
use Rattle.edits.specs.declared.fault.EditFault.TheVariants.{RedoEmpty, Memory}
use Rattle.edits.specs.Design.{Design}
use Rattle.edits.specs.Edit.{edited}

abbrev pub fault_name : EditFault → List ℕ
fault_name Place = codes "Place"
fault_name Colour = codes "Colour"
fault_name TooLarge = codes "TooLarge"
fault_name LastLine = codes "LastLine"
fault_name SampleOver = codes "SampleOver"
fault_name PaletteFull = codes "PaletteFull"
fault_name DuplicateColour = codes "DuplicateColour"
fault_name Background = codes "Background"
fault_name NoChange = codes "NoChange"
fault_name UndoEmpty = codes "UndoEmpty"
fault_name RedoEmpty = codes "RedoEmpty"
fault_name Memory = codes "Memory"

-- the cell is one of the picture's
abbrev pub has_cell : Rows → ℕ → ℕ → Bool
has_cell rows row col = nat_lt row (length rows) && nat_lt col (width_of rows)

-- the palette has no colour of that number
abbrev pub is_unknown : Colours → ℕ → Bool
is_unknown colours colour = nat_le (length colours.triples) colour

-- The errors that an edit can meet, in order, each with its condition; that nothing would change is not among them. A
-- rectangle must lie in the picture, and its bottom must not be above its top, nor its right before its left.
abbrev pub faults_of : Design → Edit → List (Bool × EditFault)
faults_of d (Paint row col colour) = (not (has_cell d.rows row col), Place) ∷ (is_unknown d.colours colour, Colour) ∷ []
faults_of d (Fill top left bottom right colour) =
    (not (has_cell d.rows bottom right && (nat_le top bottom && nat_le left right)), Place)
    ∷ (is_unknown d.colours colour, Colour) ∷ []
faults_of d (Recolour source target) = (is_unknown d.colours source || is_unknown d.colours target, Colour) ∷ []
faults_of d (InsertLine line) =
    (nat_lt (lines_along line.axis d.rows) line.at, Place)
    ∷ (nat_le MAX_SIDE (lines_along line.axis d.rows), TooLarge) ∷ []
faults_of d (DeleteLine line) =
    (nat_le (lines_along line.axis d.rows) line.at, Place) ∷ (nat_le (lines_along line.axis d.rows) 1, LastLine) ∷ []
faults_of d (SwapLines axis first second) =
    (nat_le (lines_along axis d.rows) first || nat_le (lines_along axis d.rows) second, Place) ∷ []
faults_of d (AddColour rgb) =
    (not (fits d.colours.maxval rgb), SampleOver) ∷ (nat_le MAX_COLOURS (length d.colours.triples), PaletteFull)
    ∷ (list_any (rgb_eq rgb) d.colours.triples, DuplicateColour) ∷ []
faults_of d (SetColour colour rgb) =
    (is_unknown d.colours colour, Colour) ∷ (not (fits d.colours.maxval rgb), SampleOver)
    ∷ (list_any (rgb_eq rgb) (remove d.colours.triples colour), DuplicateColour) ∷ (colour == 0, Background) ∷ []
faults_of d (Pin row col) = (not (has_cell d.rows row col), Place) ∷ []
faults_of d (Unpin row col) = (not (has_cell d.rows row col), Place) ∷ []

-- the two documents are the same
abbrev pub same_design : Design → Design → Bool
same_design a b =
    (a.colours.maxval == b.colours.maxval && pointwise rgb_eq a.colours.triples b.colours.triples)
    && (pointwise (pointwise nat_eq) a.rows b.rows && pointwise (pointwise nat_eq) a.marks b.marks)

-- the first error whose condition holds; the last one in order is that the edit would change nothing
abbrev pub edit_fault : Design → Edit → Option EditFault
edit_fault d e =
    option_map (λ f. f.1) (find (λ f. f.0) (faults_of d e ++ (same_design (edited d e) d, NoChange) ∷ []))
