use Rattle.std.proofs.Common.{ap, ◌∙◌}
use Rattle.edits.specs.Design.{design_of}
use Rattle.edits.specs.Note.{Note}
use Rattle.edits.proofs.ChangeLemmas.{leads}
use Rattle.edits.proofs.entry.Entry.change.Goals as goal

pub change_by-requires : goal.change_by-requires
change_by-requires c =
    rw (c.deref.ensures.value ∙ ap (λ (n : Note). n.cells) c.requires.kept)
    (leads (design_of c.args.before.now) (design_of c.args.after.now) c.requires.is_design c.args.self.now.edit c.requires.lawful c.requires.gives)
