use Rattle.std.proofs.Common.{◌≡◌, List, ℕ, ap, sym, subst, arith}
use Rattle.std.proofs.lemmas.Result.{err_from_is_err_and}
use Rattle.edits.specs.Design.{design_of}
use Rattle.picture.specs.Rows.{HasLine}
use Rattle.fixpoint.specs.LineNames.{AllLines}
use Rattle.line_facts.specs.FactSets.{SameShape}
use Rattle.justify.specs.Book.{Account, IsDerivation}
use Rattle.live_audit.proofs.AuditLemmas.{audit_of, book_closable, derives_anew, is_anew, no_fault_but_memory, starts_trimmed}
use Rattle.live_audit.proofs.audit.audit_anew.Goals as goal

pub close-requires-clause-derivation : goal.close-requires-clause-derivation
close-requires-clause-derivation g c =
    let P : Account → Type 0 = λ b. IsDerivation c.in_ok-clues.clues b in
    subst P (sym c.in_ok-book.ensures) (derives_anew c.args.document.now.picture c.in_ok-base.base c.in_ok-clues.clues c.in_ok-clues.ensures c.in_ok-base.ensures.givens.same_shape)

pub close-requires-clause-closable : goal.close-requires-clause-closable
close-requires-clause-closable g c =
    let P : Account → Type 0 = λ b. IsDerivation c.in_ok-clues.clues b in
    let derives = subst P (sym c.in_ok-book.ensures) (derives_anew c.args.document.now.picture c.in_ok-base.base c.in_ok-clues.clues c.in_ok-clues.ensures c.in_ok-base.ensures.givens.same_shape) in
    let shape = subst (λ (b : Account). SameShape c.args.document.now.picture b.base) (sym c.in_ok-book.ensures) c.in_ok-base.ensures.givens.same_shape in
    book_closable c.in_ok-clues.clues _ c.args.document.now.picture c.in_ok-book.book c.facts.ensures.account derives shape c.know.ensures.design.is_picture c.requires

pub close-requires-clause-lines : goal.close-requires-clause-lines
close-requires-clause-lines g c line h =
    subst (λ (f : List (List ℕ)). HasLine f line) c.facts.ensures.value ((c.all_lines-dirty.ensures.lines line).0 h)

pub close-requires-clause-quiet : goal.close-requires-clause-quiet
close-requires-clause-quiet g c line has not =
    absurd (not ((c.all_lines-dirty.ensures.lines line).1 (subst (λ (f : List (List ℕ)). HasLine f line) (sym c.facts.ensures.value) has)))

pub returns-in_err-book-2-clause-memory : goal.returns-in_err-book-2-clause-memory
returns-in_err-book-2-clause-memory g c =
    let p = err_from_is_err_and c.from_residual-in_err-book-2.result c.from_residual-in_err-book-2.ensures.1 in
    let over : c.in_ok-book.book.base ≡ c.in_ok-base.base = ap (λ (b : Account). b.base) c.in_ok-book.ensures in
    rw (p.1, p.2) (no_fault_but_memory (design_of c.args.document.now) c.in_ok-base.base c.in_ok-clues.clues c.in_ok-book.book c.in_err-book-2.field-0.0 c.know.ensures.design.is_picture c.in_ok-clues.ensures
    c.in_ok-base.ensures over c.in_err-book-2.ensures.closes)

pub returns-clause-audit : goal.returns-clause-audit
returns-clause-audit g c =
    let start = c.in_ok-book.ensures in
    let over : c.in_ok-book.book.base ≡ c.in_ok-base.base = ap (λ (b : Account). b.base) start in
    audit_of (design_of c.args.document.now) c.in_ok-base.base c.in_ok-clues.clues c.in_ok-book.book c.in_ok-book-2.book c.in_ok-clues.ensures c.in_ok-base.ensures over c.in_ok-book-2.ensures.closes
    c.facts-2.ensures.account
    (c.in_ok-book-2.ensures.trimmed (starts_trimmed c.in_ok-clues.clues c.in_ok-base.base c.in_ok-book.book start))

pub returns-clause-work : goal.returns-clause-work
returns-clause-work g c =
    let P : List (List ℕ) → Type 0 = λ f. AllLines f c.all_lines-dirty.result in
    let over : c.in_ok-book.book.facts ≡ c.in_ok-base.base = ap (λ (b : Account). b.facts) c.in_ok-book.ensures in
    is_anew c.in_ok-clues.clues c.in_ok-base.base _ c.in_ok-book.book c.in_ok-book-2.book _ _ _ _ c.in_ok-book.ensures
    (subst P over (subst P c.facts.ensures.value c.all_lines-dirty.ensures.lines)) c.in_ok-book-2.ensures.closes c.in_ok-book-2.ensures.works
