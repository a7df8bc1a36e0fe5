-- Judgements as verdicts, and how often they call the engine at most.
use Rattle.std.proofs.Common.{◌≡◌, ◌⊎◌, ℕ, zero, suc, ◌+◌, ◌*◌, ◌<◌, ◌≤◌, List, [], Option, None, Some, Result, Ok, MatchResult, IfNone, IfSome, length, refl, sym, ap, subst, arith, inl, inr}
use Rattle.std.proofs.lemmas.Bool.{cases_eq}
use Rattle.std.proofs.lemmas.List.{length-map}
use Rattle.std.proofs.lemmas.Nat.{mul-add-lt}
use Rattle.std.proofs.Math.Nat.{mul-le-mul_right, mul_comm}
use Rattle.picture.specs.CellSet.{HasCell, cell_count}
use Rattle.picture.specs.Rows.{width_of, Rows}
use Rattle.cert_text.specs.Cert.{Certificate}
use Rattle.clues.specs.ClueBook.{Clues, clues_of}
use Rattle.clues.specs.Solution.{IsOnlySolution, IsOther}
use Rattle.line_facts.specs.Counts.{counted}
use Rattle.line_facts.specs.declared.meter.Meter.{Meter}
use Rattle.line_facts.specs.FactSets.{SameShape}
use Rattle.line_facts.specs.Masks.{Masks}
use Rattle.grade.specs.declared.figures.Figures.{Figures}
use Rattle.second_search.specs.declared.keeper.Judged.{Judged}
use Rattle.second_search.specs.declared.keeper.Judged.TheVariants as judged
use Rattle.second_search.specs.declared.keeper.KeptPart.{KeptPart}
use Rattle.second_search.specs.Answer.{IsAnswer}
use Rattle.certificate.specs.MadeCert.{HasOther, IsMade}
use Rattle.second_search.specs.Evaluations.{AreFew, BothReach, most_in_tree, most_to_close, most_to_search}
use Rattle.second_search.specs.JudgedParts.{AnswersAs, Done, Judges, Starts, parts_of}
use Rattle.second_search.specs.Parts.{AreParts, IsBefore, IsScene, board}
use Rattle.second_search.specs.Verdict.{Verdict as Judgement}
use Rattle.second_search.specs.Verdict as judgement
use Rattle.second_search.proofs.DrawLemmas.{few_alike}
use Rattle.second_search.proofs.PartLemmas.{open_in_picture}
use Rattle.second_search.proofs.PickLemmas.{same_list}
use Rattle.assess.specs.declared.assessment.Verdict.{Verdict}
use Rattle.assess.specs.declared.assessment.Verdict.TheVariants as verdicts
use Rattle.assess.specs.declared.grading.TheConstants.{GRADE_EVALUATIONS, GRADE_LINES}
use Rattle.assess.specs.Calls.{AreFewBy, AreFewInAll, AreFewInParts, most_besides, most_in_parts, most_in_trees, most_to_grade}
use Rattle.assess.specs.Grades.{IsBeyond, IsIfShort}
use Rattle.assess.specs.Judging.{AreJudged, IsVerdict, verdict_of}
use Rattle.assess.specs.Settling.{HasFigures, IsMap}

-- ---- how many parts there are

later_place : (row col r c width : ℕ) → col < width → IsBefore row col r c → row * width + col < r * width + c
later_place row col r c width w (inl l) =
    let up : suc row * width ≤ r * width = mul-le-mul_right width (let x : suc row ≤ r = omega arith in x) in
    omega arith
later_place row col r c width w (inr (e, l)) =
    let same = ap (λ (x : ℕ). x * width) e in
    omega arith

module _ (clues : Clues) (givens : List ℕ) (facts : Masks) (picture : Rows) (parts : Rows) (scene : IsScene clues givens facts picture) (are : AreParts facts parts) where
  inside : (i : ℕ) (l : i < length parts) → ((are.each i l).row < length picture) × ((are.each i l).col < width_of picture)
  inside i l = let from = (are.each i l).from in open_in_picture clues givens facts picture (are.each i l).row (are.each i l).col scene from.is_open

  -- the first cell of part i has at least i cells before it
  placed : (i : ℕ) (l : i < length parts) → i ≤ (are.each i l).row * width_of picture + (are.each i l).col
  placed zero l = omega arith
  placed (suc i) l =
      let m : i < length parts = omega arith in
      let one = are.each i m in
      let next = are.each (suc i) l in
      let here = placed i m in
      let up = later_place one.row one.col next.row next.col (width_of picture) (inside i m).1 (are.ordered i (suc i) one.row one.col next.row next.col (omega arith) l one.from next.from) in
      omega arith

  parts_within : (n : ℕ) → n ≡ length parts → n ≤ length picture * width_of picture
  parts_within zero e = omega arith
  parts_within (suc n) e =
      let l : n < length parts = omega arith in
      let here = placed n l in
      let cell = inside n l in
      let last = mul-add-lt (are.each n l).row (width_of picture) (are.each n l).col (length picture) cell.0 cell.1 in
      omega (arith, mul_comm (width_of picture) (length picture))

pub few_parts : (clues : Clues) (givens : List ℕ) (facts : Masks) (picture : Rows) (kept : List KeptPart) → IsScene clues givens facts picture → Starts facts kept
    → length kept ≤ length picture * width_of picture
few_parts clues givens facts picture kept scene starts =
    parts_within clues givens facts picture (parts_of kept) scene starts.parts (length kept) (sym (length-map kept (λ (part : KeptPart). part.cells)))

-- ---- how often the engine is called

pub in_parts : (picture : Rows) (facts : Masks) (allowance : Option ℕ) (parts n before after : ℕ) → SameShape picture facts → parts ≤ length picture * width_of picture
    → AreFew allowance facts parts n → after ≡ counted before (n + 0) → AreFewInParts picture allowance before after
unfolding most_in_parts
in_parts picture facts None parts n before after s p few e = tt
in_parts picture facts (Some splits) parts n before after s p few e =
    let least : n ≤ parts * most_to_search picture splits = few_alike (Some splits) picture facts parts n s few in
    let all : parts * most_to_search picture splits ≤ length picture * width_of picture * most_to_search picture splits = mul-le-mul_right (most_to_search picture splits) p in
    omega arith

pub no_calls : (picture : Rows) (allowance : Option ℕ) (calls : ℕ) → AreFewInParts picture allowance calls calls
no_calls picture None calls = tt
no_calls picture (Some splits) calls = omega arith

-- ---- verdicts

only_one : (clues : Clues) (givens : List ℕ) (picture : Rows) → ((other : Rows) → IsOther clues (HasCell givens) picture other → ⊥) → IsOnlySolution clues (HasCell givens) picture
only_one clues givens picture none other s = elim (same_list (same_list cases_eq) other picture) [
  | inl e ↦ e
  | inr d ↦ absurd (none other (record { solves = s; differs = d }))
]

module _ (picture : Rows) (givens : List ℕ) (allowance : Option ℕ) (map : Masks) (kept last : List KeptPart) (searched splits : ℕ) (is_map : IsMap picture givens map) (starts : Starts map kept) where
  judged_so : (j kind : Judgement) → j ≡ kind → Judges (board (clues_of picture) map picture) allowance kept last j searched splits → AreJudged picture givens allowance kind
  judged_so j kind e judges = record {
    map = map;
    is_map = is_map;
    kept = kept;
    last = last;
    searched = searched;
    splits = splits;
    starts = starts;
    judges = subst (λ (v : Judgement). Judges (board (clues_of picture) map picture) allowance kept last v searched splits) e judges;
  }

  verdict_as : (answer : Judged) (j : Judgement) → AnswersAs last answer j → Judges (board (clues_of picture) map picture) allowance kept last j searched splits
      → IsAnswer (clues_of picture) givens picture answer → IsVerdict picture givens allowance (verdict_of answer)
  verdict_as judged.Unique j a judges is = (judged_so j judgement.Unique a judges, only_one (clues_of picture) givens picture is)
  verdict_as (judged.Other other) j a judges is = (judged_so j judgement.Other a.0 judges, is)
  verdict_as judged.Undecided j a judges is = judged_so j judgement.Undecided a judges

pub verdict_told : {X : Type 0} → (picture : Rows) (givens : List ℕ) (allowance : Option ℕ) (map : Masks) (kept last : List KeptPart) (clues : Clues) (result : Result Judged X) (answer : Judged)
    (verdict : Verdict) (sb sa pb pa : ℕ) (mb ma : Meter) (cb ca : ℕ) → clues ≡ clues_of picture → IsMap picture givens map → Starts map kept → result ≡ Ok answer
    → IsAnswer clues givens picture answer → verdict ≡ verdict_of answer
    → MatchResult result (λ judged. (j : Judgement) × (AnswersAs last judged j × Done sb sa pb pa mb ma cb ca (Judges (board clues map picture) allowance kept last j))) (λ _. last ≡ kept)
    → IsVerdict picture givens allowance verdict
verdict_told {X = X} picture givens allowance map kept last clues result answer verdict sb sa pb pa mb ma cb ca e is_map starts is told same h =
    let Done_so : Judgement → Type 0 = λ (j : Judgement). Done sb sa pb pa mb ma cb ca (Judges (board clues map picture) allowance kept last j) in
    let k = subst (λ (x : Result Judged X). MatchResult x (λ judged. (j : Judgement) × (AnswersAs last judged j × Done_so j)) (λ _. last ≡ kept)) is h in
    let judges = subst (λ (c : Clues). Judges (board c map picture) allowance kept last k.0 k.1.1.searched k.1.1.splits) e k.1.1.is in
    let true_answer = subst (λ (c : Clues). IsAnswer c givens picture answer) e told in
    subst (IsVerdict picture givens allowance) (sym same)
    (verdict_as picture givens allowance map kept last k.1.1.searched k.1.1.splits is_map starts answer k.0 k.1.0 judges true_answer)

-- a verdict says where there is one solution
pub only_where : (picture : Rows) (givens : List ℕ) (allowance : Option ℕ) (verdict : Verdict) → IsVerdict picture givens allowance verdict → verdict ≡ verdicts.Unique
    → IsOnlySolution (clues_of picture) (HasCell givens) picture
only_where picture givens allowance verdicts.Unique is e = is.1
only_where picture givens allowance (verdicts.Ambiguous other) is e = absurd cc
only_where picture givens allowance verdicts.Undecided is e = absurd cc

-- ---- a grade

pub in_trees : (picture : Rows) (before after : ℕ) → after ≤ before + 2 * most_in_tree picture GRADE_EVALUATIONS → after ≤ before + most_in_trees picture
unfolding most_in_trees
in_trees picture before after l = l

pub trees_only : (picture : Rows) (before after : ℕ) → after ≤ before + most_in_trees picture → after ≤ before + most_to_grade picture
unfolding most_to_grade
trees_only picture before after l = omega arith

pub trees_and_lines : (picture : Rows) (lines before made after : ℕ) → made ≤ before + most_in_trees picture → after ≤ made + lines → lines ≤ GRADE_LINES → after ≤ before + most_to_grade picture
unfolding most_to_grade
trees_and_lines picture lines before made after m a l = omega arith

-- ---- an assessment

no_parts : (picture : Rows) (allowance : Option ℕ) (before after : ℕ) → after ≤ before → AreFewInParts picture allowance before after
no_parts picture None before after l = tt
no_parts picture (Some splits) before after l = omega arith

-- nothing was looked at yet
pub none_yet : (picture : Rows) (givens : List ℕ) (allowance : Option ℕ) (before after : ℕ) → after ≡ before → AreFewInAll picture givens allowance before after
none_yet picture givens allowance before after e = ([], (inl refl, no_parts picture allowance (before + (0 + most_besides picture givens)) after (omega arith)))

-- the looks, the parts, a grade, and line logic without each given
pub few_in_all : (picture : Rows) (givens : List ℕ) (allowance : Option ℕ) (figures : Figures) (before looked judged graded after : ℕ) → HasFigures picture givens figures
    → looked ≤ before + figures.evaluations → AreFewInParts picture allowance looked judged → graded ≤ judged + most_to_grade picture
    → after ≤ graded + cell_count givens * most_to_close picture → AreFewInAll picture givens allowance before after
unfolding most_besides
few_in_all picture givens None figures before looked judged graded after f l one g more = (f.looks, (inr (f.map, f.are_looks), tt))
few_in_all picture givens (Some splits) figures before looked judged graded after f l one g more =
    let n : figures.evaluations ≡ length f.looks = ap (λ (x : Figures). x.evaluations) f.figures_are in (
      f.looks,
      (
        inr (f.map, f.are_looks),
        (let m : after ≤ before + (length f.looks + (most_to_grade picture + cell_count givens * most_to_close picture)) + most_in_parts picture splits = omega arith in m),
      ),
    )

-- the check, the looks, a grade, and line logic without each given
pub few_by : (picture : Rows) (givens : List ℕ) (cert : Certificate) (figures : Figures) (before checked looked graded after : ℕ) → HasFigures picture givens figures
    → checked ≤ before + length cert.lines → looked ≤ checked + figures.evaluations → graded ≤ looked + most_to_grade picture
    → after ≤ graded + cell_count givens * most_to_close picture → AreFewBy picture givens cert before after
unfolding most_besides
few_by picture givens cert figures before checked looked graded after f a b g more =
    let n : figures.evaluations ≡ length f.looks = ap (λ (x : Figures). x.evaluations) f.figures_are in (
      f.looks,
      (
        inr (f.map, f.are_looks),
        (let m : after ≤ before + (length cert.lines + (length f.looks + (most_to_grade picture + cell_count givens * most_to_close picture))) = omega arith in m),
      ),
    )

-- ---- no grade

-- no certificate within the bounds was made, or the one that was made is too long
pub none_short : (picture : Rows) (givens : List ℕ) (before after : ℕ) (found short : Option Certificate) → IfSome found (IsMade picture givens)
    → IfNone found (HasOther picture givens ⊎ BothReach GRADE_EVALUATIONS before after) → IsIfShort found short → IfNone short (HasOther picture givens ⊎ IsBeyond picture givens before after)
none_short picture givens before after None None made (inl other) is = inl other
none_short picture givens before after None None made (inr reach) is = inr (inl reach)
none_short picture givens before after None (Some short) made none is = tt
none_short picture givens before after (Some cert) None made none is = inr (inr (cert, (made, is)))
none_short picture givens before after (Some cert) (Some short) made none is = tt

-- where there is no other picture, there is no grade only beyond the bounds
pub only_beyond : (picture : Rows) (givens : List ℕ) (before between ending after : ℕ) → IsOnlySolution (clues_of picture) (HasCell givens) picture
    → HasOther picture givens ⊎ IsBeyond picture givens between ending → before ≤ between → ending ≤ after → IsBeyond picture givens before after
only_beyond picture givens before between ending after only (inl (other, is)) b e = absurd (is.differs (only other is.solves))
only_beyond picture givens before between ending after only (inr (inl reach)) b e = inl (omega arith)
only_beyond picture givens before between ending after only (inr (inr long)) b e = inr long
