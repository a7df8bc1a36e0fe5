-- The conditions of errors, each over all edits: none of them holds for a lawful edit.
use Rattle.std.specs.Prelude.{Bool, false, ◌&&◌, ◌||◌, not, nat_le, nat_lt, ◌==◌, length}
use Rattle.std.specs.List.{list_any}
use Rattle.picture.specs.declared.picture.TheConstants.{MAX_SIDE, MAX_COLOURS}
use Rattle.picture.specs.Palette.{Colours, fits, rgb_eq, stands_elsewhere}
use Rattle.picture.specs.Rows.{lines_along, Rows}
use Rattle.edits.specs.declared.edit.Edit.{Edit}
use Rattle.edits.specs.declared.edit.Edit.TheVariants.{Paint, Fill, Recolour, InsertLine, DeleteLine, SwapLines}
use Rattle.edits.specs.declared.edit.Edit.TheVariants.{AddColour, SetColour, Pin, Unpin}
use Rattle.edits.specs.Fault.{has_cell, is_unknown}

-- a cell or a line lies outside the picture, or the bottom of a rectangle is above its top, or its right before its
-- left
abbrev pub is_outside : Rows → Edit → Bool
is_outside rows (Paint row col colour) = not (has_cell rows row col)
is_outside rows (Fill top left bottom right colour) =
    not (has_cell rows bottom right && (nat_le top bottom && nat_le left right))
is_outside rows (InsertLine line) = nat_lt (lines_along line.axis rows) line.at
is_outside rows (DeleteLine line) = nat_le (lines_along line.axis rows) line.at
is_outside rows (SwapLines axis first second) =
    nat_le (lines_along axis rows) first || nat_le (lines_along axis rows) second
is_outside rows (Pin row col) = not (has_cell rows row col)
is_outside rows (Unpin row col) = not (has_cell rows row col)
is_outside rows e = false

-- the edit names a colour that the palette lacks
abbrev pub lacks_colour : Colours → Edit → Bool
lacks_colour colours (Paint row col colour) = is_unknown colours colour
lacks_colour colours (Fill top left bottom right colour) = is_unknown colours colour
lacks_colour colours (Recolour source target) = is_unknown colours source || is_unknown colours target
lacks_colour colours (SetColour colour rgb) = is_unknown colours colour
lacks_colour colours e = false

-- a line is to be inserted, but there are `MAX_SIDE` lines along its axis already
abbrev pub has_no_room : Rows → Edit → Bool
has_no_room rows (InsertLine line) = nat_le MAX_SIDE (lines_along line.axis rows)
has_no_room rows e = false

-- the only line of its axis is to be deleted
abbrev pub deletes_last : Rows → Edit → Bool
deletes_last rows (DeleteLine line) = nat_le (lines_along line.axis rows) 1
deletes_last rows e = false

-- a sample is above the maxval
abbrev pub is_over : Colours → Edit → Bool
is_over colours (AddColour rgb) = not (fits colours.maxval rgb)
is_over colours (SetColour colour rgb) = not (fits colours.maxval rgb)
is_over colours e = false

-- a colour is to be added, but the palette has `MAX_COLOURS` colours already
abbrev pub is_full : Colours → Edit → Bool
is_full colours (AddColour rgb) = nat_le MAX_COLOURS (length colours.triples)
is_full colours e = false

-- the palette has the colour already, at another number
abbrev pub is_there : Colours → Edit → Bool
is_there colours (AddColour rgb) = list_any (rgb_eq rgb) colours.triples
is_there colours (SetColour colour rgb) = stands_elsewhere colours.triples colour rgb
is_there colours e = false

-- the colour of the background is to be set, even to what it is
abbrev pub sets_background : Edit → Bool
sets_background (SetColour colour rgb) = colour == 0
sets_background e = false
