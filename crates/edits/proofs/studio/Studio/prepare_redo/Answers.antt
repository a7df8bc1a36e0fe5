use Rattle.std.proofs.Common.{◌≡◌, option_copied, Some, None, ap, sym, subst, ◌∙◌, rules, slice_get}
use Rattle.std.specs.Option.{ok_or}
use Rattle.std.proofs.lemmas.Result.{err_from_is_err_and}
use Rattle.edits.specs.declared.fault.EditFault.TheVariants.{RedoEmpty}
use Rattle.edits.specs.Design.{Design, design_of}
use Rattle.edits.specs.Note.{IsStep, note_of}
use Rattle.edits.specs.History.{IsPlanFor, ByRedo, plan, redo_fault}
use Rattle.edits.proofs.HistoryLemmas.{step_entry}
use Rattle.edits.specs.Studio.{history_from}
use Rattle.edits.proofs.RingLemmas.{redo_refused, has_redo, first_step, redo_plan, first_turn_is}
use Rattle.edits.proofs.studio.Studio.prepare_redo.Goals as goal

pub returns-in_err-entry-clause-refused : goal.returns-in_err-entry-clause-refused
returns-in_err-entry-clause-refused c =
    let p = err_from_is_err_and c.from_residual.result c.from_residual.ensures.1 in
    let none : c.front.result ≡ None = c.in_err-entry.ensures.ok_part in
    let is : c.in_err-entry.field-0.0 ≡ RedoEmpty = cc (c.in_err-entry.ensures.value ∙ ap (λ o. ok_or o RedoEmpty) none) in
    rw (p.1, p.2, is, ← c.self.view_is) (sym (redo_refused (design_of c.self.inside.document) c.self.inside.past c.self.inside.future (sym c.front.ensures ∙ ap option_copied none)))

pub apply-requires : goal.apply-requires
apply-requires c =
    let first : slice_get c.self.inside.future.items 0 ≡ Some c.in_ok-entry.entry.now = sym c.front.ensures ∙ ap option_copied c.in_ok-entry.ensures.ok_part in
    step_entry _ _ _ (first_step (design_of c.self.inside.document) c.self.inside.future.items c.in_ok-entry.entry.now first c.self.invariant.are_future).0

pub change-change-requires : goal.change-change-requires
change-change-requires c =
    let d : Design = design_of c.self.inside.document in
    let first : slice_get c.self.inside.future.items 0 ≡ Some c.in_ok-entry.entry.now = sym c.front.ensures ∙ ap option_copied c.in_ok-entry.ensures.ok_part in
    subst (λ (after : Design). IsStep d (note_of c.in_ok-entry.entry.now) after) (sym c.in_ok-document.ensures)
    (first_step d c.self.inside.future.items c.in_ok-entry.entry.now first c.self.invariant.are_future).0

pub returns-in_err-document-clause-refused : goal.returns-in_err-document-clause-refused
returns-in_err-document-clause-refused c =
    let first : slice_get c.self.inside.future.items 0 ≡ Some c.in_ok-entry.entry.now = sym c.front.ensures ∙ ap option_copied c.in_ok-entry.ensures.ok_part in
    let none : redo_fault c.args.self.now ≡ None = ap redo_fault (sym c.self.view_is)
    ∙ has_redo (design_of c.self.inside.document) c.self.inside.past c.self.inside.future c.in_ok-entry.entry.now first in
    rw none (search rules)

pub returns-clause-lawful : goal.returns-clause-lawful
returns-clause-lawful c =
    let first : slice_get c.self.inside.future.items 0 ≡ Some c.in_ok-entry.entry.now = sym c.front.ensures ∙ ap option_copied c.in_ok-entry.ensures.ok_part in
    ap redo_fault (sym c.self.view_is) ∙ has_redo (design_of c.self.inside.document) c.self.inside.past c.self.inside.future c.in_ok-entry.entry.now first

pub returns-clause-ready : goal.returns-clause-ready
returns-clause-ready c =
    let d : Design = design_of c.self.inside.document in
    let first : slice_get c.self.inside.future.items 0 ≡ Some c.in_ok-entry.entry.now = sym c.front.ensures ∙ ap option_copied c.in_ok-entry.ensures.ok_part in
    rw (← c.self.view_is)
    (subst (λ (after : Design). IsPlanFor (history_from d c.self.inside.past c.self.inside.future) (plan ByRedo after c.change-change.result)) (sym c.in_ok-document.ensures)
    (redo_plan d c.self.inside.past c.self.inside.future c.in_ok-entry.entry.now first c.self.invariant c.change-change.result))

pub returns-clause-change : goal.returns-clause-change
returns-clause-change c =
    let d : Design = design_of c.self.inside.document in
    let first : slice_get c.self.inside.future.items 0 ≡ Some c.in_ok-entry.entry.now = sym c.front.ensures ∙ ap option_copied c.in_ok-entry.ensures.ok_part in
    let by = c.change-change.ensures in
    rw (← c.self.view_is, first_turn_is d c.self.inside.future.items c.in_ok-entry.entry.now first) (record { moved = by.moves; are_moves = by.are_moves; exact = by.exact })
