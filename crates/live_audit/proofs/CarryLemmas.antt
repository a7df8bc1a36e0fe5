-- What is known of the parts, carried from one document to the next.
use Rattle.std.proofs.Common.{◌≡◌, ℕ, List, Option, refl, sym, ap, subst, ◌∙◌}
use Rattle.line_facts.specs.Masks.{Masks}
use Rattle.picture.specs.Rows.{Rows}
use Rattle.picture.specs.declared.document.Document.{Document}
use Rattle.picture.specs.Laws.{SameCellsAreEqual}
use Rattle.clues.specs.Change.{Moves}
use Rattle.clues.specs.ClueBook.{Clues}
use Rattle.line_facts.specs.declared.meter.Meter.{Meter}
use Rattle.justify.specs.Book.{Account}
use Rattle.live_audit.specs.Audit.{GoesOn, nothing_done}
use Rattle.second_search.specs.declared.keeper.KeptPart.{KeptPart}
use Rattle.second_search.specs.CarriedParts.{Carries}
use Rattle.second_search.specs.JudgedParts.{AreTrue, parts_of}
use Rattle.second_search.specs.Parts.{AreParts, board}
use Rattle.edits.specs.Design.{Design, design_of}
use Rattle.edits.specs.History.{Advance, History, advanced}
use Rattle.live_audit.specs.declared.work.Work.{Work}
use Rattle.live_audit.specs.Bench.{AreAnswersOf, AreGivenCells, Seen, seen}
use Rattle.live_audit.specs.Calls.{CarriesOn}
use Rattle.live_audit.proofs.VerdictLemmas.{answers_of}

-- the answers for a document's scene are those of the document
pub answers_there : SameCellsAreEqual → (d : Document) (clues sc : Clues) (facts sf : Masks) (sg : List ℕ) (sp : Rows) (kept : List KeptPart)
    → sc ≡ clues → sf ≡ facts → sg ≡ d.givens → sp ≡ d.picture → AreGivenCells (design_of d) d.givens → AreParts sf (parts_of kept) → AreTrue sc sg sp kept
    → AreAnswersOf (design_of d) clues facts kept
answers_there same d clues sc facts sf sg sp kept ec ef eg ep g parts t =
    answers_of same (design_of d) clues facts d.givens kept g (rw ef at parts) (rw (ec, eg, ep) at t)

-- an advanced history has the document that was prepared
pub goes_to : (d : Document) (p : Design) (advance : Advance) (h now after : History) → design_of d ≡ p → p ≡ (advanced now advance).document → h ≡ now → after ≡ advanced h advance
    → design_of d ≡ after.document
goes_to d p advance h now after e gives was made =
    subst (λ (x : History). design_of d ≡ (advanced x advance).document) (sym was) (e ∙ gives) ∙ sym (ap (λ (x : History). x.document) made)

pub carries_on : (moves way : Moves) (d next : Document) (h after : History) (clues more : Clues) (book longer : Account) (kept carried : List KeptPart) (allowance : Option ℕ) (work : Work)
    (edit : Meter) (before calls : ℕ) (old : Seen)
    → design_of d ≡ h.document → design_of next ≡ after.document → seen h clues book kept allowance work before ≡ old
    → way ≡ moves → GoesOn way clues more book longer nothing_done edit before calls → Carries (board clues book.facts d.picture) (board more longer.facts next.picture) kept carried
    → CarriesOn moves old (seen after more longer carried allowance (record { edit = edit; search = work.search; parts = work.parts; splits = work.splits }) calls)
carries_on moves way d next h after clues more book longer kept carried allowance work edit before calls old e f was moved goes carries =
    let new : Seen = seen after more longer carried allowance (record { edit = edit; search = work.search; parts = work.parts; splits = work.splits }) calls in
    let there : Carries (board clues book.facts h.document.rows) (board more longer.facts next.picture) kept carried =
    subst (λ (x : Design). Carries (board clues book.facts x.rows) (board more longer.facts next.picture) kept carried) e carries in
    let both : Carries (board clues book.facts h.document.rows) (board more longer.facts after.document.rows) kept carried =
    subst (λ (x : Design). Carries (board clues book.facts h.document.rows) (board more longer.facts x.rows) kept carried) f there in
    let here : CarriesOn moves (seen h clues book kept allowance work before) new =
    record { book = subst (λ (m : Moves). GoesOn m clues more book longer nothing_done edit before calls) moved goes; kept = both; allowance = refl; search = refl } in
    subst (λ (s : Seen). CarriesOn moves s new) was here
