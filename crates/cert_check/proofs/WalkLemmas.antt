-- What the calls of a walk need, and the first error from the beginning.
use Rattle.std.proofs.Common.{◌≡◌, ℕ, ◌+◌, ◌-◌, ◌<◌, ◌≤◌, ◌↔◌, List, ◌∷◌, Bool, true, false, Option, Some, Ok, Err, IsTrue, length, get_or, drop, drop-cons, add-one, refl, sym, ap}
use Rattle.std.proofs.Common.{subst, ◌∙◌, arith, inl, inr}
use Rattle.std.specs.List.{sum_by}
use Rattle.std.proofs.lemmas.List.{drop_all}
use Rattle.std.proofs.lemmas.List.Sums.{sum_by-cons}
use Rattle.line_facts.specs.Masks.{Masks}
use Rattle.picture.specs.declared.line_id.LineId.{LineId}
use Rattle.picture.specs.Rows.{line_of, lines_along, HasLine, Rows}
use Rattle.clues.specs.declared.block.Block.{Block}
use Rattle.clues.proofs.BookLaws.{length_along-clues_of}
use Rattle.clues.specs.ClueBook.{Clues, clue_at, clues_of, HasClue}
use Rattle.line_facts.specs.declared.line_engine.Outcome.{Outcome}
use Rattle.line_facts.specs.Fits.{CanFit}
use Rattle.line_facts.specs.NarrowedLine.{Narrows}
use Rattle.line_facts.specs.FactSets.{Gains, HoldsLine, SameShape}
use Rattle.line_facts.proofs.GridLaws.{same_has_line, shape_sym}
use Rattle.cert_text.specs.declared.fault.CertFault.{CertFault}
use Rattle.cert_text.specs.declared.fault.CertFault.TheVariants.{Ended, Trailing}
use Rattle.cert_text.specs.declared.cert_line.LineNumber.{LineNumber}
use Rattle.cert_text.specs.declared.cert_line.CertLine.{CertLine}
use Rattle.cert_text.specs.declared.cert_line.CertLine.TheVariants.{Line, Use, Split, Dead, Broken, Done, Part, Lemma, Deny, Forget}
use Rattle.cert_check.specs.Puzzle.{HasLineNumber, IsDead, IsForced, line_id}
use Rattle.cert_check.specs.FirstFault.{Answers, FirstFault, HasFault, found_by}
use Rattle.cert_check.specs.Moving.{moved_to}
use Rattle.cert_check.specs.Machined.{Affords, AffordsAll, Machined, Spent, Takes, denials_of, lemmas_of, parts_of, reached}
use Rattle.cert_check.specs.Walk.{CanCheck, Walk}

-- ---- a line found

has_found : (picture : Rows) (number : LineNumber) (found : LineId) → HasLineNumber picture number → found ≡ line_id number → HasLine picture found
has_found picture number found h e = subst (λ (l : LineId). HasLine picture l) (sym e) (let l : number.number - 1 < lines_along number.axis picture = omega arith in l)

pub found_clue : (picture : Rows) (clues : Clues) (longest : ℕ) (number : LineNumber) (found : LineId) → CanCheck picture clues longest → HasLineNumber picture number → found ≡ line_id number
    → HasClue clues found
found_clue picture clues longest number found can h e =
    let n = length_along-clues_of found.axis picture in
    let l = has_found picture number found h e in
    rw can.clues_are (omega arith)

-- ---- a line judged

pub by_found : (picture : Rows) (clues : Clues) (longest : ℕ) (clue : List Block) (number : LineNumber) (found : LineId) → CanCheck picture clues longest → found ≡ line_id number
    → clue ≡ clue_at clues found → clue ≡ clue_at (clues_of picture) (line_id number)
by_found picture clues longest clue number found can e c = c ∙ (ap (λ (cs : Clues). clue_at cs found) can.clues_are ∙ ap (clue_at (clues_of picture)) e)

pub not_dead : (picture : Rows) (facts : Masks) (clues : Clues) (longest : ℕ) (clue : List Block) (number : LineNumber) (found : LineId) (b : Bool) → CanCheck picture clues longest
    → found ≡ line_id number → clue ≡ clue_at clues found → IsTrue b ↔ (CanFit clue (line_of facts found) → ⊥) → b ≡ false → IsDead picture facts (line_id number) → ⊥
not_dead picture facts clues longest clue number found b can e c is f dead =
    let t : b ≡ true = is.1 (rw (by_found picture clues longest clue number found can e c, e) dead) in
    cc

-- what an engine narrows is what the line forces
pub gains_force : (picture : Rows) (facts gained : Masks) (line : LineId) (outcome : Outcome) → Gains (clue_at (clues_of picture) line) line facts gained outcome → IsForced picture facts line gained
gains_force picture facts gained line outcome g = record { same_shape = g.same_shape; exact = g.narrows.exact; elsewhere = g.elsewhere }

pub line_clue : (picture : Rows) (facts : Masks) (clues : Clues) (longest : ℕ) (line : LineId) → CanCheck picture clues longest → SameShape picture facts → HasLine facts line → HasClue clues line
line_clue picture facts clues longest line can shape has =
    let n = length_along-clues_of line.axis picture in
    let l = same_has_line facts picture line (shape_sym shape) has in
    rw can.clues_are (omega arith)

pub forced_by : (picture : Rows) (old new : Masks) (clues : Clues) (longest : ℕ) (clue : List Block) (line : LineId) (outcome : Outcome) (masks : List ℕ) → CanCheck picture clues longest
    → clue ≡ clue_at clues line → Narrows clue (line_of old line) outcome masks → HoldsLine line old new masks → IsForced picture old line new
forced_by picture old new clues longest clue line outcome masks can c n h =
    let of : clue ≡ clue_at (clues_of picture) line = c ∙ ap (λ (cs : Clues). clue_at cs line) can.clues_are in
    let here = subst (λ (x : List Block). Narrows x (line_of old line) outcome (line_of new line)) of (subst (Narrows clue (line_of old line) outcome) (sym h.line_is) n) in
    record { same_shape = h.same_shape; exact = here.exact; elsewhere = h.elsewhere }

-- ---- the first error

-- a line has its error also with another number
pub moves : (picture : Rows) (walk : Walk) (line : CertLine) (n m : ℕ) (fault : CertFault) → HasFault picture walk line n fault → HasFault picture walk line m (moved_to fault m)
moves picture walk (Line number) n m fault h = (h.0, ap (λ (f : CertFault). moved_to f m) h.1)
moves picture walk (Use lemma) n m fault h = (h.0, ap (λ (f : CertFault). moved_to f m) h.1)
moves picture walk (Split cell) n m fault h = (h.0, ap (λ (f : CertFault). moved_to f m) h.1)
moves picture walk (Part literal) n m fault h = (h.0, ap (λ (f : CertFault). moved_to f m) h.1)
moves picture walk (Dead number) n m fault (inl h) = inl (h.0, ap (λ (f : CertFault). moved_to f m) h.1)
moves picture walk (Dead number) n m fault (inr h) = inr (h.0, h.1, ap (λ (f : CertFault). moved_to f m) h.2)
moves picture walk (Broken lemma) n m fault (inl h) = inl (h.0, ap (λ (f : CertFault). moved_to f m) h.1)
moves picture walk (Broken lemma) n m fault (inr h) = inr (h.0, (h.1.0, h.1.1, ap (λ (f : CertFault). moved_to f m) h.1.2))
moves picture walk Done n m fault h = (h.0, ap (λ (f : CertFault). moved_to f m) h.1)
moves picture walk Lemma n m fault h = (h.0, ap (λ (f : CertFault). moved_to f m) h.1)
moves picture walk (Deny literal) n m fault (inl h) = inl (h.0, ap (λ (f : CertFault). moved_to f m) h.1)
moves picture walk (Deny literal) n m fault (inr (inl h)) = inr (inl (h.0, h.1, ap (λ (f : CertFault). moved_to f m) h.2))
moves picture walk (Deny literal) n m fault (inr (inr h)) = inr (inr (h.0, h.1, h.2, ap (λ (f : CertFault). moved_to f m) h.3))
moves picture walk (Forget lemma) n m fault (inl h) = inl (h.0, ap (λ (f : CertFault). moved_to f m) h.1)
moves picture walk (Forget lemma) n m fault (inr h) = inr (h.0, h.1, ap (λ (f : CertFault). moved_to f m) h.2)

-- whatever error is first from step i on is first from the beginning
pub record FirstSoFar (picture : Rows) (start at : Option Walk) (place : ℕ → ℕ) (i : ℕ) (lines rest : List CertLine) : Type 0 where
  pub goes : (fault : Option CertFault) → FirstFault picture at place i rest fault → FirstFault picture start place 0 lines fault

here : (lines : List CertLine) (i : ℕ) (d : CertLine) → i < length lines → drop i lines ≡ get_or lines i d ∷ drop (i + 1) lines
here lines i d l = rw (add-one, drop-cons lines i d) refl

-- ---- room for the lines that are left

module _ (lines : List CertLine) (i : ℕ) (line d : CertLine) (l : i < length lines) (is : line ≡ get_or lines i d) where
  split_sum : (f : CertLine → ℕ) → sum_by f (drop i lines) ≡ f line + sum_by f (drop (i + 1) lines)
  split_sum f = ap (sum_by f) (here lines i d l) ∙ (sum_by-cons f (get_or lines i d) (drop (i + 1) lines) ∙ ap (λ (c : CertLine). f c + sum_by f (drop (i + 1) lines)) (sym is))

  pub affords_line : (machine : Machined) → AffordsAll machine (drop i lines) → Affords machine line
  affords_line machine all = record {
    parts = omega (arith, all.parts, split_sum parts_of);
    literals = omega (arith, all.literals, split_sum denials_of);
    lemmas = omega (arith, all.lemmas, split_sum lemmas_of);
  }

  pub affords_more : (old new : Machined) → AffordsAll old (drop i lines) → Spent old new line → AffordsAll new (drop (i + 1) lines)
  affords_more old new all spent = record {
    parts = omega (arith, all.parts, spent.parts, split_sum parts_of);
    literals = omega (arith, all.literals, spent.literals, split_sum denials_of);
    lemmas = omega (arith, all.lemmas, spent.lemmas, split_sum lemmas_of);
  }

module _ (picture : Rows) (start : Option Walk) (walk : Walk) (going : Bool) (place : ℕ → ℕ) (i : ℕ) (lines : List CertLine) (l : i < length lines)
    (so_far : FirstSoFar picture start (reached going walk) place i lines (drop i lines)) where
  pub trailing_first : going ≡ false → FirstFault picture start place 0 lines (Some (Trailing (place i)))
  trailing_first e = so_far.goes (Some (Trailing (place i))) (rw (e, here lines i Done l) refl)

  module _ (line d : CertLine) (on : going ≡ true) (is : line ≡ get_or lines i d) where
    -- from a line that is taken
    at_line : (fault : Option CertFault) → FirstFault picture (Some walk) place i (line ∷ drop (i + 1) lines) fault → FirstFault picture start place 0 lines fault
    at_line fault f = so_far.goes fault (rw (on, here lines i d l, ← is) f)

    pub refused_first : (new : Machined) (e : CertFault) → Takes picture (found_by walk line) new line i (Err e) → Answers (FirstFault picture start place 0 lines) (Err (moved_to e (place i)))
    refused_first new e h = at_line (Some (moved_to e (place i))) (inl (moved_to e (place i), (moves picture (found_by walk line) line i (place i) e h, refl)))

    pub taken_first : (new : Machined) (more : Bool) → Takes picture (found_by walk line) new line i (Ok more)
        → FirstSoFar picture start (reached more new.walk) place (i + 1) lines (drop (i + 1) lines)
    taken_first new more t = record { goes = λ fault f. at_line fault (inr (reached more new.walk, (t.1, f))) }

pub ended_first : (picture : Rows) (start : Option Walk) (walk : Walk) (going : Bool) (place : ℕ → ℕ) (i n : ℕ) (lines : List CertLine)
    → FirstSoFar picture start (reached going walk) place i lines (drop i lines)
    → length lines ≤ i → i ≡ n → going ≡ true → FirstFault picture start place 0 lines (Some (Ended (place n)))
ended_first picture start walk going place i n lines so_far l e on = so_far.goes (Some (Ended (place n))) (rw (on, drop_all i lines l, e) refl)
