-- What a designer does to a document, and how its history goes on.
use Rattle.std.specs.Prelude.{length, slice_get, Option, Some, None}
use Rattle.circular_buffer.specs.Buffer.{last_item}
use Rattle.picture.specs.Rows.{width_of, Rows}
use Rattle.clues.specs.Change.{Moves, back, still}
use Rattle.edits.specs.declared.edit.Edit.{Edit}
use Rattle.edits.specs.declared.fault.EditFault.{EditFault}
use Rattle.edits.specs.Change.{moves_of}
use Rattle.edits.specs.Fault.{edit_fault}
use Rattle.edits.specs.History.{History, Turn, after_edit, redo_fault, redone, undo_fault, undone}

-- an edit, an undo or a redo
pub data Stroke : Type 0 where
  Edits : Edit → Stroke
  Undoes : Stroke
  Redoes : Stroke

-- the error that refuses it, if one does
abbrev pub stroke_fault : History → Stroke → Option EditFault
stroke_fault h (Edits e) = edit_fault h.document e
stroke_fault h Undoes = undo_fault h
stroke_fault h Redoes = redo_fault h

-- the history after it, where it is accepted
abbrev pub after_stroke : History → Stroke → History
after_stroke h (Edits e) = after_edit h e
after_stroke h Undoes = undone h
after_stroke h Redoes = redone h

-- where it moves the lines of the present picture: an edit that is taken back moves them back
abbrev pub moves_back : Rows → Option Turn → Moves
moves_back rows None = still (length rows) (width_of rows)
moves_back rows (Some t) = back (moves_of t.edit t.document.rows)

abbrev pub moves_forth : Rows → Option Turn → Moves
moves_forth rows None = still (length rows) (width_of rows)
moves_forth rows (Some t) = moves_of t.edit rows

abbrev pub stroke_moves : History → Stroke → Moves
stroke_moves h (Edits e) = moves_of e h.document.rows
stroke_moves h Undoes = moves_back h.document.rows (last_item h.past)
stroke_moves h Redoes = moves_forth h.document.rows (slice_get h.future 0)
