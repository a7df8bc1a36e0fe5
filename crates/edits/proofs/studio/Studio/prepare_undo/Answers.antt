use Rattle.std.proofs.Common.{◌≡◌, option_copied, Some, None, ap, sym, subst, ◌∙◌, rules}
use Rattle.std.specs.Option.{ok_or}
use Rattle.std.proofs.lemmas.Result.{err_from_is_err_and}
use Rattle.clues.specs.Change.{back}
use Rattle.edits.specs.declared.fault.EditFault.TheVariants.{UndoEmpty}
use Rattle.circular_buffer.specs.Buffer.{last_item}
use Rattle.edits.specs.Change.{moves_of}
use Rattle.edits.specs.Design.{Design, design_of}
use Rattle.edits.specs.History.{IsPlanFor, ByUndo, plan, undo_fault}
use Rattle.edits.specs.Note.{IsStep, note_of, reverted}
use Rattle.edits.specs.Studio.{history_from}
use Rattle.edits.proofs.RingLemmas.{undo_refused, has_undo, last_step, undo_plan, last_turn_is}
use Rattle.edits.proofs.studio.Studio.prepare_undo.Goals as goal

pub returns-in_err-entry-clause-refused : goal.returns-in_err-entry-clause-refused
returns-in_err-entry-clause-refused c =
    let p = err_from_is_err_and c.from_residual.result c.from_residual.ensures.1 in
    let none : c.back.result ≡ None = c.in_err-entry.ensures.ok_part in
    let is : c.in_err-entry.field-0.0 ≡ UndoEmpty = cc (c.in_err-entry.ensures.value ∙ ap (λ o. ok_or o UndoEmpty) none) in
    rw (p.1, p.2, is, ← c.self.view_is) (sym (undo_refused (design_of c.self.inside.document) c.self.inside.past c.self.inside.future (sym c.back.ensures ∙ ap option_copied none)))

pub revert-requires : goal.revert-requires
revert-requires c =
    let last : last_item c.self.inside.past.items ≡ Some c.in_ok-entry.entry.now = sym c.back.ensures ∙ ap option_copied c.in_ok-entry.ensures.ok_part in (
      reverted (design_of c.self.inside.document) (note_of c.in_ok-entry.entry.now),
      (last_step (design_of c.self.inside.document) c.self.inside.past.items c.in_ok-entry.entry.now last c.self.invariant.are_past).0,
    )

pub change_back-change-requires : goal.change_back-change-requires
change_back-change-requires c =
    let d : Design = design_of c.self.inside.document in
    let last : last_item c.self.inside.past.items ≡ Some c.in_ok-entry.entry.now = sym c.back.ensures ∙ ap option_copied c.in_ok-entry.ensures.ok_part in
    let step = (last_step d c.self.inside.past.items c.in_ok-entry.entry.now last c.self.invariant.are_past).0 in
    subst (λ (before : Design). IsStep before (note_of c.in_ok-entry.entry.now) d) (sym (c.in_ok-document.ensures (reverted d (note_of c.in_ok-entry.entry.now)) step)) step

pub returns-in_err-document-clause-refused : goal.returns-in_err-document-clause-refused
returns-in_err-document-clause-refused c =
    let last : last_item c.self.inside.past.items ≡ Some c.in_ok-entry.entry.now = sym c.back.ensures ∙ ap option_copied c.in_ok-entry.ensures.ok_part in
    let none : undo_fault c.args.self.now ≡ None = ap undo_fault (sym c.self.view_is)
    ∙ has_undo (design_of c.self.inside.document) c.self.inside.past c.self.inside.future c.in_ok-entry.entry.now last in
    rw none (search rules)

pub returns-clause-lawful : goal.returns-clause-lawful
returns-clause-lawful c =
    let last : last_item c.self.inside.past.items ≡ Some c.in_ok-entry.entry.now = sym c.back.ensures ∙ ap option_copied c.in_ok-entry.ensures.ok_part in
    ap undo_fault (sym c.self.view_is) ∙ has_undo (design_of c.self.inside.document) c.self.inside.past c.self.inside.future c.in_ok-entry.entry.now last

pub returns-clause-ready : goal.returns-clause-ready
returns-clause-ready c =
    let d : Design = design_of c.self.inside.document in
    let last : last_item c.self.inside.past.items ≡ Some c.in_ok-entry.entry.now = sym c.back.ensures ∙ ap option_copied c.in_ok-entry.ensures.ok_part in
    let gives = c.in_ok-document.ensures (reverted d (note_of c.in_ok-entry.entry.now)) (last_step d c.self.inside.past.items c.in_ok-entry.entry.now last c.self.invariant.are_past).0 in
    rw (← c.self.view_is)
    (subst (λ (before : Design). IsPlanFor (history_from d c.self.inside.past c.self.inside.future) (plan ByUndo before c.change_back-change.result)) (sym gives)
    (undo_plan d c.self.inside.past c.self.inside.future c.in_ok-entry.entry.now last c.self.invariant c.change_back-change.result))

pub returns-clause-change : goal.returns-clause-change
returns-clause-change c =
    let d : Design = design_of c.self.inside.document in
    let last : last_item c.self.inside.past.items ≡ Some c.in_ok-entry.entry.now = sym c.back.ensures ∙ ap option_copied c.in_ok-entry.ensures.ok_part in
    let gives = c.in_ok-document.ensures (reverted d (note_of c.in_ok-entry.entry.now)) (last_step d c.self.inside.past.items c.in_ok-entry.entry.now last c.self.invariant.are_past).0 in
    let by = c.change_back-change.ensures in
    rw (← c.self.view_is, last_turn_is d c.self.inside.past.items c.in_ok-entry.entry.now last)
    (record { moved = by.moves ∙ ap (λ (before : Design). back (moves_of c.in_ok-entry.entry.now.edit before.rows)) gives; are_moves = by.are_moves; exact = by.exact })
