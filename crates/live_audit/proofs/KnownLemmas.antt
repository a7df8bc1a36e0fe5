-- What is known of the parts, so that they need not be searched.
use Rattle.std.proofs.Common.{◌≡◌, ◌<◌, ℕ, zero, suc, List, Option, None, length, ap, subst, ◌∙◌, inl, inr, arith}
use Rattle.std.specs.Prelude.{◌⊎◌}
use Rattle.line_facts.specs.Masks.{Masks}
use Rattle.picture.specs.Rows.{Rows}
use Rattle.clues.specs.ClueBook.{Clues}
use Rattle.line_facts.specs.declared.meter.Meter.{Meter}
use Rattle.second_search.specs.declared.counting.Ending.{Ending}
use Rattle.second_search.specs.declared.counting.Ending.TheVariants as ending
use Rattle.second_search.specs.declared.keeper.Answer.{Answer}
use Rattle.second_search.specs.declared.keeper.Answer.TheVariants.{Nothing}
use Rattle.second_search.specs.declared.keeper.KeptPart.{KeptPart}
use Rattle.second_search.specs.Verdict.{Verdict as Judgement}
use Rattle.second_search.specs.Verdict as judgement
use Rattle.second_search.specs.JudgedParts.{EndsBy, EndsPart, HasFilling, Judges, Passes, answer_at, cells_at, kept_at}
use Rattle.second_search.specs.Laws.{AllowancesBreakOff}
use Rattle.second_search.specs.Parts.{board}
use Rattle.live_audit.specs.declared.verdict.Verdict.{Verdict}
use Rattle.live_audit.specs.declared.verdict.Verdict.TheVariants as verdicts
use Rattle.live_audit.specs.declared.work.Work.{Work}
use Rattle.live_audit.specs.Audit.{nothing_done}
use Rattle.live_audit.specs.Bench.{Seen}
use Rattle.live_audit.specs.Laws.{CertifiedVerdictsSearchNothing}
use Rattle.live_audit.specs.Verdict.{AnswersAs}
use Rattle.live_audit.proofs.VerdictLemmas.{keeps_so}

-- ---- where something is known of each part

-- what is known of the parts decides a verdict
AreKnown : List KeptPart → Type 0
AreKnown kept = ((i : ℕ) → i < length kept → answer_at kept i ≡ Nothing) ⊎ ((i : ℕ) × HasFilling kept i)

-- this is so once a verdict without an allowance has searched
are_known : AllowancesBreakOff → (clues : Clues) (facts : Masks) (picture : Rows) (old new : List KeptPart) (j : Judgement) (m n : ℕ)
    → Judges (board clues facts picture) None old new j m n → AreKnown new
unfolding AreKnown
are_known law clues facts picture old new judgement.Unique m n h = inl (λ i l. h.noted.before i (subst (λ k. i < k) h.noted.count l))
are_known law clues facts picture old new judgement.Other m n h = inr (keeps_so clues facts picture None old new judgement.Other m n h)
are_known law clues facts picture old new judgement.Undecided m n h =
    let broken = law clues facts picture None old new m n h in
    let e = broken.1 in
    absurd cc

-- a part that is known to have no other filling is skipped
passed_over : (clues : Clues) (facts : Masks) (picture : Rows) (allowance : Option ℕ) (kept : List KeptPart) (i : ℕ) (found : Ending) (m n : ℕ) → answer_at kept i ≡ Nothing
    → EndsPart (board clues facts picture) allowance (kept_at kept i) found m n → (found ≡ ending.Nothing) × ((m ≡ 0) × (n ≡ 0))
passed_over clues facts picture allowance kept i found m n e h =
    subst (λ (a : Answer). EndsBy (board clues facts picture) allowance (cells_at kept i) a found m n) e h

all_passed : (clues : Clues) (facts : Masks) (picture : Rows) (allowance : Option ℕ) (kept : List KeptPart) (count m n : ℕ) → ((i : ℕ) → i < count → answer_at kept i ≡ Nothing)
    → Passes (board clues facts picture) allowance kept count m n → (m ≡ 0) × (n ≡ 0)
all_passed clues facts picture allowance kept zero m n none h = h
all_passed clues facts picture allowance kept (suc count) m n none h =
    let p = h.0 in
    let q = h.1.0 in
    let t = h.1.1.0 in
    let u = h.1.1.1.0 in
    let rest = h.1.1.1.1 in
    let before = all_passed clues facts picture allowance kept count p q (λ i l. none i (omega arith)) rest.0 in
    let here = passed_over clues facts picture allowance kept count ending.Nothing t u (none count (omega arith)) rest.1.0 in
    (omega arith, omega arith)

-- nothing is searched, and the judgement is decided
record SearchesNone (j : Judgement) (m n : ℕ) : Type 0 where
  searched : m ≡ 0
  splits : n ≡ 0
  decided : j ≡ judgement.Undecided → ⊥

searches_none : (clues : Clues) (facts : Masks) (picture : Rows) (allowance : Option ℕ) (old new : List KeptPart) (j : Judgement) (m n : ℕ) → AreKnown old
    → Judges (board clues facts picture) allowance old new j m n → SearchesNone j m n
unfolding AreKnown
searches_none clues facts picture allowance old new judgement.Unique m n k h = elim k [
  | inl none ↦
      let p = all_passed clues facts picture allowance old (length old) m n none h.passes in
      record { searched = p.0; splits = p.1; decided = λ e. absurd cc }
  | inr f ↦ absurd (h.none_kept f.0 f.1.place f.1.is)
]
searches_none clues facts picture allowance old new judgement.Other m n k h = elim h [
  | inl kept ↦ record { searched = kept.searched_none; splits = kept.splits_none; decided = λ e. absurd cc }
  | inr o ↦ elim k [
    | inl none ↦
        let p = passed_over clues facts picture allowance old o.at (ending.Found o.other) _ _ (none o.at o.stops.place) o.stops.here in
        let e = p.0 in
        absurd cc
    | inr f ↦ absurd (o.none_kept f.0 f.1.place f.1.is)
  ]
]
searches_none clues facts picture allowance old new judgement.Undecided m n k h = elim k [
  | inl none ↦
      let p = passed_over clues facts picture allowance old h.at ending.BrokenOff _ _ (none h.at h.stops.place) h.stops.here in
      let e = p.0 in
      absurd cc
  | inr f ↦ absurd (h.none_kept f.0 f.1.place f.1.is)
]

no_work : (m : Meter) → m.evaluations ≡ 0 → m.trials ≡ 0 → m ≡ nothing_done
no_work m e t = ap (λ (x : ℕ). record m { evaluations = x }) e ∙ ap (λ (x : ℕ). record nothing_done { trials = x }) t

work_so : (w : Work) (edit : Meter) → w ≡ record w { edit = edit } → w.search ≡ nothing_done → w.parts ≡ 0 → w.splits ≡ 0 → w ≡ record { edit = edit; search = nothing_done; parts = 0; splits = 0 }
work_so w edit same s p n =
    same ∙ (ap (λ (x : Meter). record w { edit = edit; search = x }) s
    ∙ (ap (λ (x : ℕ). record w { edit = edit; search = nothing_done; parts = x }) p ∙ ap (λ (x : ℕ). record w { edit = edit; search = nothing_done; parts = 0; splits = x }) n))

undecided_so : (s : Seen) (verdict : Verdict) (j : Judgement) (splits : ℕ) → verdict ≡ verdicts.Undecided splits → AnswersAs s verdict j → j ≡ judgement.Undecided
undecided_so s verdict j splits e a =
    let there : AnswersAs s (verdicts.Undecided splits) j = subst (λ (v : Verdict). AnswersAs s v j) e a in
    there.0

pub certified : AllowancesBreakOff → CertifiedVerdictsSearchNothing
certified law old between new verdict h t =
    let j = t.0 in
    let d = t.1.1 in
    let done = d.work in
    let known = are_known law old.clues old.book.facts old.history.document.rows old.kept between.kept h.0 h.1.0 h.1.1.0 h.1.1.1 in
    let none = searches_none between.clues between.book.facts between.history.document.rows between.allowance between.kept new.kept j done.searched done.splits known done.is in
    let unsearched = none.searched in
    let unused = done.none unsearched in
    let no_evaluation : new.work.search.evaluations ≡ 0 = omega arith in
    let no_trial : new.work.search.trials ≡ 0 = omega arith in
    let no_part : new.work.parts ≡ 0 = omega arith in
    let no_split : new.work.splits ≡ 0 = omega arith in
    record {
      decided = λ splits e. none.decided (undecided_so new verdict j splits e t.1.0);
      work = work_so new.work between.work.edit (ap (λ (s : Seen). s.work) d.same) (no_work new.work.search no_evaluation no_trial) no_part no_split;
    }
