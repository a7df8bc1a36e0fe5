use Rattle.std.proofs.Common.{List, ℕ, subst, sym, arith}
use Rattle.std.proofs.lemmas.Result.{err_from_is_err_and}
use Rattle.line_facts.specs.FactSets.{SameShape}
use Rattle.edits.specs.Design.{design_of}
use Rattle.live_audit.proofs.AuditLemmas.{audit_of, base_after, book_closable, can_refresh, goes_on, have_books, no_fault_but_memory, quiet_outside}
use Rattle.live_audit.proofs.audit.audit_again.Goals as goal

pub refresh-requires : goal.refresh-requires
refresh-requires g c =
    can_refresh c.args.revision.now.change.now c.args.revision.now.old.now.picture c.args.revision.now.new.now.picture c.requires.change c.args.revision.now.audit.now.clues
    c.requires.audited.clues_are

pub keep-requires-clause-derivation : goal.keep-requires-clause-derivation
keep-requires-clause-derivation g c = c.requires.audited.derivation

pub keep-requires-clause-books : goal.keep-requires-clause-books
keep-requires-clause-books g c =
    let counted = c.in_ok-clues.ensures.value c.args.revision.now.old.now.picture c.requires.audited.clues_are c.requires.change.follows in
    have_books c.args.revision.now.change.now c.args.revision.now.old.now.picture c.args.revision.now.new.now.picture c.requires.change c.args.revision.now.audit.now.clues c.in_ok-clues.clues
    c.requires.audited.clues_are counted

pub keep-requires-clause-base : goal.keep-requires-clause-base
keep-requires-clause-base g c =
    base_after c.args.revision.now.change.now c.args.revision.now.old.now.picture c.args.revision.now.new.now.picture c.requires.change c.in_ok-base.base c.in_ok-base.ensures.givens.same_shape

pub close-requires-clause-closable : goal.close-requires-clause-closable
close-requires-clause-closable g c =
    let e = c.in_ok-book.ensures in
    let P : List (List ℕ) → Type 0 = λ b. SameShape c.args.revision.now.new.now.picture b in
    book_closable c.in_ok-clues.clues _ c.args.revision.now.new.now.picture c.in_ok-book.field-0.book c.facts.ensures.account e.derivation
    (subst P (sym e.base) c.in_ok-base.ensures.givens.same_shape) c.know.ensures.design.is_picture c.requires.long

pub close-requires-clause-derivation : goal.close-requires-clause-derivation
close-requires-clause-derivation g c = c.in_ok-book.ensures.derivation

pub close-requires-clause-quiet : goal.close-requires-clause-quiet
close-requires-clause-quiet g c =
    let a = c.requires.audited in
    let e = c.in_ok-book.ensures in
    quiet_outside _ _ _ (e.closed a.map.closed) (e.fits a.fits)

pub returns-in_err-book-2-clause-memory : goal.returns-in_err-book-2-clause-memory
returns-in_err-book-2-clause-memory g c =
    let p = err_from_is_err_and c.from_residual-in_err-book-2.result c.from_residual-in_err-book-2.ensures.1 in
    let counted = c.in_ok-clues.ensures.value c.args.revision.now.old.now.picture c.requires.audited.clues_are c.requires.change.follows in
    rw (p.1, p.2) (no_fault_but_memory (design_of c.args.revision.now.new.now) c.in_ok-base.base c.in_ok-clues.clues c.in_ok-book.field-0.book c.in_err-book-2.field-0.0 c.know.ensures.design.is_picture
    counted c.in_ok-base.ensures c.in_ok-book.ensures.base c.in_err-book-2.ensures.closes)

pub returns-clause-audit : goal.returns-clause-audit
returns-clause-audit g c =
    let a = c.requires.audited in
    let counted = c.in_ok-clues.ensures.value c.args.revision.now.old.now.picture a.clues_are c.requires.change.follows in
    let e = c.in_ok-book.ensures in
    audit_of (design_of c.args.revision.now.new.now) c.in_ok-base.base c.in_ok-clues.clues _ c.in_ok-book-2.book counted c.in_ok-base.ensures e.base c.in_ok-book-2.ensures.closes
    c.facts-2.ensures.account (c.in_ok-book-2.ensures.trimmed (e.trimmed a.trimmed))

pub returns-clause-goes_on : goal.returns-clause-goes_on
returns-clause-goes_on g c =
    let e = c.in_ok-book.ensures in
    goes_on c.args.revision.now.change.now.moves c.args.revision.now.audit.now.clues c.in_ok-clues.clues c.in_ok-base.base c.args.revision.now.audit.now.book c.in_ok-book.field-0.book
    c.in_ok-book-2.book _ _ _ _ _ c.facts.ensures.account e.base e.steps e.dirty c.in_ok-book-2.ensures.closes c.in_ok-book-2.ensures.works
