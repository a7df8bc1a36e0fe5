-- What is kept after a picture is judged is true, and so is what is answered.
use Rattle.std.proofs.Common.{ℕ, zero, suc, ◌<◌, Option, List, length, sym, subst, arith, inl, inr}
use Rattle.std.proofs.lemmas.Bool.{cases_eq, cases_lt}
use Rattle.std.proofs.lemmas.List.{length-map}
use Rattle.line_facts.specs.Masks.{Masks}
use Rattle.picture.specs.Rows.{Rows}
use Rattle.clues.specs.ClueBook.{Clues}
use Rattle.clues.specs.Laws.{BooksAreTheirClues, CluesAreOfLines}
use Rattle.fixpoint.specs.Laws.{ClosingKeepsFillings, OnlyIsClosed}
use Rattle.second_search.specs.declared.counting.Ending.TheVariants as ending
use Rattle.second_search.specs.declared.keeper.Answer.{Answer}
use Rattle.second_search.specs.declared.keeper.Answer.TheVariants.{Filling, Nothing, Unknown}
use Rattle.second_search.specs.declared.keeper.KeptPart.{KeptPart}
use Rattle.second_search.specs.Verdict.{Verdict, Other, Undecided, Unique}
use Rattle.second_search.specs.Laws.{FillingsAreOfFacts, PartsDecide}
use Rattle.second_search.specs.Parts.{AreParts, IsOtherFilling, IsScene, board}
use Rattle.second_search.specs.JudgedParts.{AreTrue, Changes, EndsBy, EndsPart, Finds, HasNoFilling, IsFilling, IsTrueOf, Judges, Passes, answer_at, cells_at, kept_at, parts_of, AnswersAs}
use Rattle.second_search.proofs.WithinLemmas.{within_none, within_one}
use Rattle.second_search.proofs.VerdictLemmas.{part_of_kept}
use Rattle.second_search.specs.declared.keeper.Judged.{Judged}
use Rattle.second_search.specs.declared.keeper.Judged.TheVariants as judged
use Rattle.second_search.specs.Answer.{IsAnswer}

module _ (clues : Clues) (givens : List ℕ) (picture : Rows) where
  abbrev HasNone : List ℕ → Type 0
  HasNone cells = (other : Rows) → IsOtherFilling clues givens picture cells other → ⊥

  changes_true : (old new : List KeptPart) (end : ℕ) → Changes old new end → ((i : ℕ) → i < end → i < length old → HasNone (cells_at old i)) → AreTrue clues givens picture old
      → AreTrue clues givens picture new
  changes_true old new end c none t i l =
      elim (cases_lt i end) [
        | inl m ↦
            subst (λ (a : Answer). IsTrueOf clues givens picture (cells_at new i) a) (sym (c.before i m)) (subst (λ (cells : List ℕ). HasNone cells) (sym (c.cells i)) (none i m (omega arith)))
        | inr p ↦
            subst (λ (part : KeptPart). IsTrueOf clues givens picture part.cells part.answer) (sym (c.behind i p)) (t i (omega arith))
      ]

  finds_true : (old new : List KeptPart) (at : ℕ) (other : Rows) → Finds old new at other → ((i : ℕ) → i < at → i < length old → HasNone (cells_at old i))
      → IsOtherFilling clues givens picture (cells_at old at) other → AreTrue clues givens picture old → AreTrue clues givens picture new
  finds_true old new at other c none one t i l =
      elim (cases_eq i at) [
        | inl q ↦
            rw q (subst (λ (a : Answer). IsTrueOf clues givens picture (cells_at new at) a) (sym c.here)
            (subst (λ (cells : List ℕ). IsOtherFilling clues givens picture cells other) (sym (c.cells at)) one))
        | inr d ↦ elim (cases_lt i at) [
          | inl m ↦
              subst (λ (a : Answer). IsTrueOf clues givens picture (cells_at new i) a) (sym (c.before i m)) (rw (c.cells i) (none i m (omega arith)))
          | inr p ↦
              subst (λ (part : KeptPart). IsTrueOf clues givens picture part.cells part.answer) (sym (c.behind i (omega arith))) (t i (omega arith))
        ]
      ]

passes_each : (clues : Clues) (facts : Masks) (picture : Rows) (allowance : Option ℕ) (kept : List KeptPart) (n s t : ℕ) → Passes (board clues facts picture) allowance kept n s t → (i : ℕ) → i < n
    → (x : ℕ) × ((y : ℕ) × EndsPart (board clues facts picture) allowance (kept_at kept i) ending.Nothing x y)
passes_each clues facts picture allowance kept zero s t p i l = absurd (omega arith)
passes_each clues facts picture allowance kept (suc n) s t p i l = elim (cases_eq i n) [
  | inl q ↦
      subst (λ (k : ℕ). (x : ℕ) × ((y : ℕ) × EndsPart (board clues facts picture) allowance (kept_at kept k) ending.Nothing x y)) (sym q) (p.1.1.0, (p.1.1.1.0, p.1.1.1.1.1.0))
  | inr d ↦ passes_each clues facts picture allowance kept n p.0 p.1.0 p.1.1.1.1.0 i (omega arith)
]

module _ (law : CluesAreOfLines) (books : BooksAreTheirClues) (closing : ClosingKeepsFillings) (own : OnlyIsClosed) (fillings : FillingsAreOfFacts) (decide : PartsDecide) (clues : Clues)
    (givens : List ℕ) (facts : Masks) (picture : Rows) (scene : IsScene clues givens facts picture) (allowance : Option ℕ) where
  part_passed : (cells : List ℕ) (answer : Answer) (x y : ℕ) → EndsBy (board clues facts picture) allowance cells answer ending.Nothing x y → IsTrueOf clues givens picture cells answer
      → (IsFilling answer → ⊥) → HasNone clues givens picture cells
  part_passed cells Unknown x y e t f = within_none law books closing own fillings clues givens facts picture scene cells allowance y e.1
  part_passed cells Nothing x y e t f = t
  part_passed cells (Filling other) x y e t f = absurd (f tt)

  part_found : (cells : List ℕ) (answer : Answer) (other : Rows) (x y : ℕ) → EndsBy (board clues facts picture) allowance cells answer (ending.Found other) x y
      → IsOtherFilling clues givens picture cells other
  part_found cells Unknown other x y e = within_one law books closing own fillings clues givens facts picture scene cells other allowance y e.1
  part_found cells Nothing other x y e = let f = e.0 in absurd cc
  part_found cells (Filling known) other x y e = let f = e.0 in absurd cc

  all_passed : (kept : List KeptPart) (n s t : ℕ) → HasNoFilling kept (length kept) → AreTrue clues givens picture kept → Passes (board clues facts picture) allowance kept n s t → (i : ℕ) → i < n
      → i < length kept → HasNone clues givens picture (cells_at kept i)
  all_passed kept n s t none are p i l m =
      let e = passes_each clues facts picture allowance kept n s t p i l in
      part_passed (cells_at kept i) (answer_at kept i) e.0 e.1.0 e.1.1 (are i m) (none i m)

  pub judged_true : (old new : List KeptPart) (verdict : Verdict) (m n : ℕ) → AreTrue clues givens picture old → Judges (board clues facts picture) allowance old new verdict m n
      → AreTrue clues givens picture new
  judged_true old new Unique m n t j = changes_true clues givens picture old new (length old) j.noted (all_passed old (length old) m n j.none_kept t j.passes) t
  judged_true old new Other m n t (inl j) = subst (AreTrue clues givens picture) (sym j.same) t
  judged_true old new Other m n t (inr j) =
      let s = j.stops in
      finds_true clues givens picture old new j.at j.other j.noted (all_passed old j.at s.searched_before s.splits_before j.none_kept t s.before)
      (part_found (cells_at old j.at) (answer_at old j.at) j.other s.searched_here s.splits_here s.here) t
  judged_true old new Undecided m n t j =
      let s = j.stops in
      changes_true clues givens picture old new j.at j.noted (all_passed old j.at s.searched_before s.splits_before j.none_kept t s.before) t

  none_other : (old new : List KeptPart) (m n : ℕ) → AreParts facts (parts_of old) → AreTrue clues givens picture old → Judges (board clues facts picture) allowance old new Unique m n
      → IsAnswer clues givens picture judged.Unique
  none_other old new m n are t j = λ other is.
      let count = length-map old (λ (part : KeptPart). part.cells) in
      let some = (decide.some_part clues givens facts picture (parts_of old) scene are).0 (other, is) in
      let i = some.0 in
      all_passed old (length old) m n j.none_kept t j.passes i (omega arith) (omega arith) some.1.1.0
      (subst (λ (cells : List ℕ). IsOtherFilling clues givens picture cells some.1.1.0) (part_of_kept old i) some.1.1.1)

  -- what is answered of a picture judged is true
  pub answer_true : (old new : List KeptPart) (answer : Judged) (verdict : Verdict) (m n : ℕ) → AreParts facts (parts_of old) → AreTrue clues givens picture old
      → Judges (board clues facts picture) allowance old new verdict m n → AnswersAs new answer verdict → IsAnswer clues givens picture answer
  answer_true old new judged.Unique verdict m n are t j a =
      none_other old new m n are t (subst (λ (v : Verdict). Judges (board clues facts picture) allowance old new v m n) a j)
  answer_true old new (judged.Other other) verdict m n are t j a =
      let f = a.1 in
      let filling : IsOtherFilling clues givens picture (cells_at new f.at) other.now =
      subst (λ (x : Answer). IsTrueOf clues givens picture (cells_at new f.at) x) f.is (judged_true old new verdict m n t j f.at f.place) in
      filling.is_other
  answer_true old new judged.Undecided verdict m n are t j a = tt
