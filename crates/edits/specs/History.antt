-- The history of a document: a present document, those before it and those after it, each with the edit between.
use Rattle.std.specs.Prelude.{◌≡◌, ℕ, ◌-◌, List, [], ◌∷◌, ◌++◌, length, take, drop, Option, Some, None, slice_get}
use Rattle.std.specs.Prelude.{option_map, unwrap_or, ◌==◌, if◌then◌else◌}
use Rattle.picture.specs.Rows.{Rows}
use Rattle.circular_buffer.specs.Buffer.{keep_last, last_item}
use Rattle.clues.specs.Change.{Changes, Moves, AreMoves, IsChangeOf}
use Rattle.edits.specs.declared.edit.Edit.{Edit}
use Rattle.edits.specs.declared.fault.EditFault.{EditFault}
use Rattle.edits.specs.declared.fault.EditFault.TheVariants.{UndoEmpty, RedoEmpty}
use Rattle.edits.specs.Design.{Design}
use Rattle.edits.specs.Edit.{edited}
use Rattle.edits.specs.Fault.{edit_fault}
use Rattle.edits.specs.Note.{Note, IsStep, note_for, reverted}

-- a whole document with an edit: in the past the edit that was made to it, in the future the one that gives it
pub record Turn : Type 0 where
  pub document : Design
  pub edit : Edit

abbrev pub turn : Design → Edit → Turn
turn d e = record { document = d; edit = e }

pub record History : Type 0 where
  pub document : Design
  pub past : List Turn
  pub future : List Turn
  pub depth : ℕ

abbrev pub history : Design → List Turn → List Turn → ℕ → History
history d past future depth = record { document = d; past = past; future = future; depth = depth }

-- an accepted edit puts the document with the edit on the past,
-- which keeps the last `depth` of them, and empties the future
abbrev pub after_edit : History → Edit → History
after_edit h e = history (edited h.document e) (keep_last h.depth (h.past ++ turn h.document e ∷ [])) [] h.depth

-- the last document of the past becomes the present one, and the present one goes to the front of the future
abbrev pub after_undo : History → Turn → History
after_undo h t = history t.document (take (length h.past - 1) h.past) (turn h.document t.edit ∷ h.future) h.depth

-- the first document of the future becomes the present one, and the present one goes to the end of the past
abbrev pub after_redo : History → Turn → History
after_redo h t = history t.document (h.past ++ turn h.document t.edit ∷ []) (drop 1 h.future) h.depth

-- after an undo, or the same where there is nothing to undo
abbrev pub undone : History → History
undone h = unwrap_or (option_map (after_undo h) (last_item h.past)) h

-- after a redo, or the same where there is nothing to redo
abbrev pub redone : History → History
redone h = unwrap_or (option_map (after_redo h) (slice_get h.future 0)) h

-- why an undo is refused, if it is
abbrev pub undo_fault : History → Option EditFault
undo_fault h = if length h.past == 0 then Some UndoEmpty else None

-- why a redo is refused, if it is
abbrev pub redo_fault : History → Option EditFault
redo_fault h = if length h.future == 0 then Some RedoEmpty else None

-- a step of a history: an edit, with what is kept of it, an undo or a redo
pub data Advance : Type 0 where
  ByEdit : Note → Advance
  ByUndo : Advance
  ByRedo : Advance

abbrev pub advanced : History → Advance → History
advanced h (ByEdit n) = after_edit h n.edit
advanced h ByUndo = undone h
advanced h ByRedo = redone h

abbrev pub advance_fault : History → Advance → Option EditFault
advance_fault h (ByEdit n) = edit_fault h.document n.edit
advance_fault h ByUndo = undo_fault h
advance_fault h ByRedo = redo_fault h

-- what is kept of the edit, if it is one, is right for the present document
abbrev pub IsKeptOf : Design → Advance → Type 0
IsKeptOf d (ByEdit n) = n ≡ note_for d n.edit
IsKeptOf d ByUndo = Unit {0}
IsKeptOf d ByRedo = Unit {0}

-- the change has these moves, and is that of the two pictures: the touched lines are exactly those with other cells
pub record IsChangeBy (moves : Moves) (old new : Rows) (change : Changes) : Type 0 where
  pub moved : change.moves ≡ moves
  pub are_moves : AreMoves change.moves
  pub exact : IsChangeOf change old new

-- a step of a history, the document after it, and what it changes in the picture
pub record Plan : Type 0 where
  pub advance : Advance
  pub document : Design
  pub change : Changes

abbrev pub plan : Advance → Design → Changes → Plan
plan advance document change = record { advance = advance; document = document; change = change }

-- the plan is one for this very state of the history
pub record IsPlanFor (h : History) (p : Plan) : Type 0 where
  pub lawful : advance_fault h p.advance ≡ None
  pub kept : IsKeptOf h.document p.advance
  pub gives : p.document ≡ (advanced h p.advance).document

-- the document before the first of these notes' edits, from the one after the last
abbrev pub before_all : Design → List Note → Design
before_all d [] = d
before_all d (n ∷ notes) = reverted (before_all d notes) n

-- the past that the notes give back from the present document, the oldest first
abbrev pub past_from : Design → List Note → List Turn
past_from d [] = []
past_from d (n ∷ notes) = turn (before_all d (n ∷ notes)) n.edit ∷ past_from d notes

-- the future that the notes give from the present document, the nearest first
abbrev pub future_from : Design → List Note → List Turn
future_from d [] = []
future_from d (n ∷ notes) = turn (edited d n.edit) n.edit ∷ future_from (edited d n.edit) notes

-- each note of the past is what is kept of its edit
abbrev pub ArePast : Design → List Note → Type 0
ArePast d [] = Unit {0}
ArePast d (n ∷ notes) = IsStep (before_all d (n ∷ notes)) n (before_all d notes) × ArePast d notes

-- each note of the future is what is kept of its edit
abbrev pub AreFuture : Design → List Note → Type 0
AreFuture d [] = Unit {0}
AreFuture d (n ∷ notes) = IsStep d n (edited d n.edit) × AreFuture (edited d n.edit) notes
