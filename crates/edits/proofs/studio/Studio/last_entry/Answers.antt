use Rattle.std.proofs.Common.{ap, ◌∙◌, option_map}
use Rattle.circular_buffer.specs.Buffer.{last_item}
use Rattle.edits.specs.Design.{design_of}
use Rattle.edits.specs.History.{History, Turn}
use Rattle.edits.specs.Note.{note_for, note_of}
use Rattle.edits.proofs.RingLemmas.{last_note}
use Rattle.edits.proofs.studio.Studio.last_entry.Goals as goal

pub returns : goal.returns
returns c =
    ap (option_map note_of) c.back.ensures
    ∙ (last_note (design_of c.self.inside.document) c.self.inside.past.items c.self.invariant.are_past
    ∙ ap (λ (h : History). option_map (λ (t : Turn). note_for t.document t.edit) (last_item h.past)) c.self.view_is)
