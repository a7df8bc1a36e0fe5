-- A designer's step, as a stroke of the history.
use Rattle.claims.specs.declared.stroke.Step.{Step}
use Rattle.claims.specs.declared.stroke.Step.TheVariants.{Edit, Undo, Redo}
use Rattle.live_audit.specs.Stroke.{Edits, Redoes, Stroke, Undoes}

abbrev pub stroke_of : Step → Stroke
stroke_of (Edit edit) = Edits edit
stroke_of Undo = Undoes
stroke_of Redo = Redoes
