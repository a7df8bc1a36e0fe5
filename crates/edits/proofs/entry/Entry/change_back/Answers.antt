use Rattle.std.proofs.Common.{ap, subst, ◌∙◌}
use Rattle.clues.specs.Change.{AreMoves, HaveSizes, Moves}
use Rattle.edits.specs.Change.{moves_of}
use Rattle.edits.specs.declared.edit.Edit.{Edit}
use Rattle.edits.specs.Design.{design_of}
use Rattle.edits.specs.Note.{Note}
use Rattle.edits.proofs.ChangeLemmas.{leads_back, moves_back}
use Rattle.edits.proofs.entry.Entry.change_back.Goals as goal

pub change_by-requires : goal.change_by-requires
change_by-requires c =
    rw (c.deref.ensures.value ∙ ap (λ (n : Note). n.cells) c.requires.kept, c.reversed_edit-edit.ensures)
    (leads_back (design_of c.args.before.now) (design_of c.args.after.now) c.requires.is_design c.args.self.now.edit c.requires.lawful c.requires.gives)

pub returns-clause-moves : goal.returns-clause-moves
returns-clause-moves c =
    let same = c.change_by.ensures.moves ∙ ap (λ (e : Edit). moves_of e c.args.after.now.picture) c.reversed_edit-edit.ensures in
    same ∙ moves_back c.args.self.now.edit c.args.before.now.picture c.args.after.now.picture (subst AreMoves same c.change_by.ensures.are_moves)
    (subst (λ (m : Moves). HaveSizes m c.args.after.now.picture c.args.before.now.picture) same c.change_by.ensures.exact.sizes)
