-- A certificate's call: what is found without a change of the bench, and what is kept of it then.
use Rattle.std.proofs.Common.{◌≡◌, ℕ, List, length, Option, Some, None, MatchOption, Result, Ok, Err, OnOk, refl, sym, ap, subst, ◌∙◌, inl}
use Rattle.std.specs.Borrow.{Bor}
use Rattle.line_facts.specs.Masks.{Masks}
use Rattle.picture.specs.Rows.{Rows}
use Rattle.clues.specs.ClueBook.{Clues, clues_of}
use Rattle.second_search.specs.declared.keeper.KeptPart.{KeptPart}
use Rattle.second_search.specs.Verdict.{Verdict as Judgement}
use Rattle.second_search.specs.Verdict as judgement
use Rattle.second_search.specs.JudgedParts.{FirstFilling, HasNoFilling, IsFilling}
use Rattle.edits.specs.Design.{Design}
use Rattle.live_audit.specs.Bench.{AreAnswersOf, AreGivenCells, IsAudited, Seen}
use Rattle.live_audit.specs.Calls.{IsAsBefore, IsAtOnce, IsFoundOn, IsSearchedTo, Learns}
use Rattle.live_audit.specs.Verdict.{IsOtherFor}
use Rattle.live_audit.proofs.VerdictLemmas.{shows_others}

-- ---- what is found

-- where a filling is kept, nothing is searched
pub found_at_once : (s : Seen) (other : Rows) → FirstFilling s.kept other → IsAudited s → IsFoundOn s (record { cert = None; keeper = None })
found_at_once s other f a = record {
  searched = (judgement.Other, (0, (0, inl (record { at = f.at; is = record { place = f.place; is = subst IsFilling (sym f.is) tt }; same = refl; searched_none = refl; splits_none = refl }))));
  answers = a.answers;
  at_once = λ i h. refl;
}

-- the other picture that is kept
pub kept_other : (d : Design) (clues : Clues) (facts : Masks) (givens : List ℕ) (kept : List KeptPart) (r : Option (Bor (List (List ℕ)))) (P : Type 0) → AreGivenCells d givens
    → clues ≡ clues_of d.rows → AreAnswersOf d clues facts kept
    → MatchOption r P (λ other. FirstFilling kept other.now) → MatchOption r P (λ other. FirstFilling kept other.now × IsOtherFor d other.now)
kept_other d clues facts givens kept (Some other) P g e a f = (f, shows_others d clues givens kept g e (a.true_answers givens g) other.now f)
kept_other d clues facts givens kept None P g e a none = none

pub none_at_once : {T X : Type 0} (r : Result T X) (kept : List KeptPart) (s new : Seen) → HasNoFilling kept (length kept) → kept ≡ s.kept → OnOk r (IsAtOnce s new)
none_at_once (Err e) kept s new none is = tt
none_at_once (Ok x) kept s new none is = λ i has.
    let here = subst (λ (k : List KeptPart). HasNoFilling k (length k)) is none in
    absurd (here i has.place has.is)

-- ---- what is kept

pub learnt_on : (old between new : Seen) → IsAsBefore old between → Learns between new → Learns old new
learnt_on old between new e l = record {
  same = l.same ∙ ap (λ (s : Seen). record s { kept = new.kept; calls = new.calls }) e;
  kept = subst (λ (s : Seen). IsSearchedTo s new.kept) e l.kept;
}
