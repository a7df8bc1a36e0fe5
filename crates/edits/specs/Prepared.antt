-- What is prepared, from its fields.
use Rattle.picture.specs.declared.document.Document.{Document}
use Rattle.clues.specs.Change.{Changes}
use Rattle.edits.specs.declared.prepared.Step.{Step}
use Rattle.edits.specs.declared.prepared.Step.TheVariants.{Edit, Undo, Redo}
use Rattle.edits.specs.Design.{design_of}
use Rattle.edits.specs.Note.{note_of}
use Rattle.edits.specs.History.{Advance, ByEdit, ByUndo, ByRedo, Plan, plan}

abbrev pub advance_of : Step → Advance
advance_of (Edit entry) = ByEdit (note_of entry)
advance_of Undo = ByUndo
advance_of Redo = ByRedo

abbrev pub plan_from : Step → Document → Changes → Plan
plan_from step document change = plan (advance_of step) (design_of document) change
