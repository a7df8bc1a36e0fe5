-- The answers of the program are what a session says.
use Rattle.std.proofs.Common.{◌≡◌, ℕ, ◌<◌, ◌≤◌, true, false, Bool, List, [], ◌++◌, length, Option, None, Some, Result, Ok, Err, IfErr, IfOk, IfSome, OnErr, OnOk, MatchResult, inl, inr, refl, sym, ap}
use Rattle.std.proofs.Common.{subst, ◌∙◌, arith}
use Rattle.std.proofs.lemmas.Bool.Decides.{nat_tests}
use Rattle.std.specs.declared.vec.Vec.{Vec}
use Rattle.std.specs.declared.alloc.Global.{Global}
use Rattle.line_facts.specs.Masks.{Masks}
use Rattle.picture.specs.Rows.{width_of, Rows}
use Rattle.picture.specs.declared.document.Document.{Document}
use Rattle.picture.specs.Content.{content_of}
use Rattle.ppm_text.specs.Text.{ppm_text}
use Rattle.edits.specs.declared.fault.EditFault.{EditFault}
use Rattle.edits.specs.declared.fault.EditFault.TheVariants.{Place}
use Rattle.edits.specs.Design.{Design, design_of}
use Rattle.edits.specs.Fault.{has_cell}
use Rattle.clues.specs.ClueBook.{Clues}
use Rattle.non_text.specs.WrittenNon.{is_two_colour}
use Rattle.non_text.specs.Written.{non_text_of}
use Rattle.cert_text.specs.Cert.{Certificate}
use Rattle.live_audit.specs.declared.verdict.Verdict.{Verdict}
use Rattle.live_audit.specs.declared.why.Why.{Why}
use Rattle.live_audit.specs.Bench.{IsAudited, Seen}
use Rattle.grade.specs.declared.pathing.Path.{Path}
use Rattle.assess.specs.declared.assessment.Assessment.{Assessment}
use Rattle.report_text.specs.AssessmentText.{assessment_text}
use Rattle.live_audit.specs.Assessing.{IsAssessmentOf, IsPathOf}
use Rattle.live_audit.specs.Calls.{Accepts, IsAsBefore, Learns, Refuses}
use Rattle.live_audit.specs.Certify.{Certifies}
use Rattle.live_audit.specs.Reason.{Explains}
use Rattle.live_audit.specs.Stroke.{Stroke}
use Rattle.live_audit.specs.Verdict.{IsVerdictOn, Tells}
use Rattle.command_text.specs.declared.command.Command.TheVariants as command
use Rattle.session.specs.declared.answer.Answer.{Answer}
use Rattle.session.specs.declared.answer.Answer.TheVariants.{Silence, Done, Text, Refused}
use Rattle.session.specs.Answer.{GivesNon, IsAsked, answer_text, stroke_said, text_said}
use Rattle.report_text.specs.ClueText.{clues_text}
use Rattle.session.specs.Refusal.{edit_line, memory_line, refusal_line}
use Rattle.session.specs.Allowing.{assess_allowance}
use Rattle.session.specs.Session.{JudgesAs, Replies, SaysStroke, report_on}
use Rattle.session.specs.Texts.{certified_text, content, done_text, path_shown, verdict_text, verdict_word, why_text}
use Rattle.report_text.specs.Report.{ending_text}
use Rattle.report_text.specs.Shown.{map_text}
use Rattle.report_text.proofs.ReportLemmas.{front_text}

-- a stroke, by what the bench answers
pub says_stroke : (stroke : Stroke) (old new : Seen) (outcome : Result (Unit {0}) EditFault) → OnOk outcome (Accepts stroke old new) → IfErr outcome (λ fault. Refuses stroke fault old new)
    → IsAudited new
    → SaysStroke stroke old (answer_text (stroke_said outcome)) new
says_stroke stroke old new (Ok done) accepted refused audited = inl (refl, (accepted, audited))
says_stroke stroke old new (Err fault) accepted refused audited = inr (fault, (refl, refused))

-- a count that stays
same_count : (n : ℕ) → n ≤ n
same_count n = omega arith

-- a text of the state, or out of memory
pub replies_clues : {E : Type 0} (s : Seen) (clues : Clues) (outcome : Result (Vec ℕ Global) E) → clues ≡ s.clues → IsAudited s → IfOk outcome (λ text. text.items ≡ clues_text clues)
    → Replies command.Clues s (answer_text (text_said outcome)) s
unfolding Replies
replies_clues s clues (Ok text) is audited same = (inl (audited, (same ∙ ap (λ (k : Clues). clues_text k) is, refl)), same_count s.calls)
replies_clues s clues (Err e) is audited same = (inr (refl, refl), same_count s.calls)

pub replies_map : {E : Type 0} (s : Seen) (facts : Masks) (outcome : Result (Vec ℕ Global) E) → facts ≡ s.book.facts → IsAudited s → IfOk outcome (λ text. text.items ≡ map_text facts)
    → Replies command.Map s (answer_text (text_said outcome)) s
unfolding Replies
replies_map s facts (Ok text) is audited same = (inl (audited, (same ∙ ap (λ (f : Masks). map_text f) is, refl)), same_count s.calls)
replies_map s facts (Err e) is audited same = (inr (refl, refl), same_count s.calls)

pub replies_ppm : {E : Type 0} (s : Seen) (d : Document) (outcome : Result (Vec ℕ Global) E) → design_of d ≡ s.history.document → IfOk outcome (λ text. text.items ≡ ppm_text (content_of d))
    → Replies command.WritePpm s (answer_text (text_said outcome)) s
unfolding Replies
replies_ppm s d (Ok text) is same = (inl (same ∙ ap (λ (e : Design). ppm_text (content e)) is, refl), same_count s.calls)
replies_ppm s d (Err e) is same = (inr (refl, refl), same_count s.calls)

pub replies_non : (s : Seen) (d : Document) (answer : Answer) → design_of d ≡ s.history.document → GivesNon d.picture answer → Replies command.WriteNon s (answer_text answer) s
unfolding Replies
replies_non s d Silence is gives = absurd gives
replies_non s d Done is gives = absurd gives
replies_non s d (Text text) is gives =
    let rows : d.picture ≡ s.history.document.rows = ap (λ (e : Design). e.rows) is in
    (inl (inl (sym (ap is_two_colour rows) ∙ gives.0, (gives.1 ∙ ap non_text_of rows, refl))), same_count s.calls)
replies_non s d (Refused e) is (inl two) =
    let rows : d.picture ≡ s.history.document.rows = ap (λ (e : Design). e.rows) is in
    (inl (inr (sym (ap is_two_colour rows) ∙ two.1, (ap refusal_line two.0, refl))), same_count s.calls)
replies_non s d (Refused e) is (inr short) =
    let rows : d.picture ≡ s.history.document.rows = ap (λ (e : Design). e.rows) is in
    (inr (sym (ap is_two_colour rows) ∙ short.1, (ap refusal_line short.0, refl)), same_count s.calls)

-- a verdict, and what shows it
pub replies_verdict : {E : Type 0} (old new : Seen) (outcome : Result (Vec ℕ Global) E) → IsAsked verdict_text old new outcome → Replies command.Verdict old (answer_text (text_said outcome)) new
unfolding Replies
replies_verdict old new (Ok text) asked = (inl asked.1, asked.0)
replies_verdict old new (Err e) before = (inr (refl, before.1), before.0)

pub replies_report : {E : Type 0} (old new : Seen) (outcome : Result (Vec ℕ Global) E) → IsAsked (report_on old) old new outcome → Replies command.Report old (answer_text (text_said outcome)) new
unfolding Replies
replies_report old new (Ok text) asked = (inl asked.1, asked.0)
replies_report old new (Err e) before = (inr (refl, before.1), before.0)

-- a reason
pub replies_why : {E : Type 0} (s : Seen) (row col colour : ℕ) (outcome : Result (Vec ℕ Global) E) → has_cell s.history.document.rows row col ≡ true → IsAudited s
    → (why : Why) → Explains s row col colour why → IfOk outcome (λ text. text.items ≡ why_text why) → Replies (command.Why row col colour) s (answer_text (text_said outcome)) s
unfolding Replies
replies_why s row col colour (Ok text) inside audited why right is = (inl (inr (inside, (why, (right, (audited, (is, refl)))))), same_count s.calls)
replies_why s row col colour (Err e) inside audited why right is = (inr (inside, (refl, refl)), same_count s.calls)

pub replies_why_short : (s : Seen) (row col colour : ℕ) → has_cell s.history.document.rows row col ≡ true → Replies (command.Why row col colour) s memory_line s
unfolding Replies
replies_why_short s row col colour inside = (inr (inside, (refl, refl)), same_count s.calls)

pub replies_outside : (s : Seen) (row col colour : ℕ) → has_cell s.history.document.rows row col ≡ false → Replies (command.Why row col colour) s (edit_line Place) s
unfolding Replies
replies_outside s row col colour outside = (inl (inl (outside, (refl, refl))), same_count s.calls)

-- a certificate
pub replies_certify : {E : Type 0} (old new : Seen) (outcome : Result (Vec ℕ Global) E) → OnOk outcome (Learns old new) → OnErr outcome (IsAsBefore old new) → IsAudited new → old.calls ≤ new.calls
    → IfOk outcome (λ text. (found : Option Certificate) × (Certifies old.history.document found × (text.items ≡ certified_text found)))
    → Replies command.Certify old (answer_text (text_said outcome)) new
unfolding Replies
replies_certify old new (Ok text) learns before audited calls found = (inl (found.0, (found.1.0, (found.1.1, (learns, audited)))), calls)
replies_certify old new (Err e) learns before audited calls found = (inr (refl, before), calls)

-- what was worked out of the document
pub replies_assess : {E : Type 0} (old new : Seen) (is_off : Bool) (outcome : Result (Vec ℕ Global) E) → IsAsBefore old new → old.calls ≤ new.calls
    → IfOk outcome (λ text. (found : Assessment) × (IsAssessmentOf old.history.document (assess_allowance is_off old.allowance) found × (text.items ≡ assessment_text found)))
    → Replies (command.Assess is_off) old (answer_text (text_said outcome)) new
unfolding Replies
replies_assess old new is_off (Ok text) before calls found = (inl (found.0, (found.1.0, (found.1.1, before))), calls)
replies_assess old new is_off (Err e) before calls found = (inr (refl, before), calls)

pub replies_path : {E : Type 0} (old new : Seen) (outcome : Result (Vec ℕ Global) E) → IsAsBefore old new → old.calls ≤ new.calls
    → IfOk outcome (λ text. (path : Path) × (IsPathOf old.history.document path × (text.items ≡ path_shown path)))
    → Replies command.Path old (answer_text (text_said outcome)) new
unfolding Replies
replies_path old new (Ok text) before calls found = (inl (found.0, (found.1.0, (found.1.1, before))), calls)
replies_path old new (Err e) before calls found = (inr (refl, before), calls)

-- an allowance
pub replies_allow : (old new : Seen) (allowance : Option ℕ) → new ≡ record old { allowance = allowance } → Replies (command.Allow allowance) old done_text new
unfolding Replies
replies_allow old new allowance is =
    let c : new.calls ≡ old.calls = ap (λ (s : Seen). s.calls) is in
    (inl (refl, is), omega arith)

-- an allowance of at most five digits can be set
pub allowed : (allowance : Option ℕ) → IfSome allowance (λ splits. splits < 100000) → IfSome allowance (λ splits. splits ≤ 99999)
allowed None few = tt
allowed (Some splits) few = omega (arith, few)

-- ---- where a verdict was asked for

pub judged_now : {E : Type 0} (old last : Seen) (outcome : Result Verdict E) (verdict : Verdict) → outcome ≡ Ok verdict
    → IsAudited last × ((old.calls ≤ last.calls) × MatchResult outcome (Tells old last) (λ _. IsAsBefore old last))
    → IsVerdictOn old.history.document old.allowance verdict → JudgesAs old last verdict
judged_now {E} old last outcome verdict is told right =
    (subst (λ (x : Result Verdict E). MatchResult x (Tells old last) (λ _. IsAsBefore old last)) is told.1.1, (told.0, right))

pub unjudged_now : {E : Type 0} (old last : Seen) (outcome : Result Verdict E) (e : E) → outcome ≡ Err e
    → IsAudited last × ((old.calls ≤ last.calls) × MatchResult outcome (Tells old last) (λ _. IsAsBefore old last)) → (old.calls ≤ last.calls) × IsAsBefore old last
unjudged_now {E} old last outcome e is told =
    (told.1.0, subst (λ (x : Result Verdict E). MatchResult x (Tells old last) (λ _. IsAsBefore old last)) is told.1.1)

-- what a report shows does not change while its verdict is asked for
pub reported : (old new : Seen) (word front text : List ℕ) (past future : ℕ) → (asked : (verdict : Verdict) × (JudgesAs old new verdict × (word ≡ verdict_word verdict)))
    → front ≡ front_text old.history.document old.clues old.book.facts → text ≡ front ++ ending_text word past future
    → past ≡ length new.history.past → future ≡ length new.history.future → text ≡ report_on old asked.0
reported old new word front text past future asked begun is back forth =
    let d = asked.1.0.0.1.1 in
    let shown = front_text old.history.document old.clues old.book.facts in
    is ∙ ap (λ (f : List ℕ). f ++ ending_text word past future) begun ∙ ap (λ (w : List ℕ). shown ++ ending_text w past future) asked.1.1
    ∙ ap (λ (n : ℕ). shown ++ ending_text (verdict_word asked.0) n future) back ∙ ap (λ (n : ℕ). shown ++ ending_text (verdict_word asked.0) (length new.history.past) n) forth
    ∙ ap (λ (s : Seen). shown ++ ending_text (verdict_word asked.0) (length s.history.past) (length s.history.future)) d.same

-- ---- parts of answers

-- a text that was empty at first
pub from_nothing : (has front text : List ℕ) → has ≡ front ++ text → front ≡ [] → has ≡ text
from_nothing has front text is none = is ∙ ap (λ (xs : List ℕ). xs ++ text) none

-- a cell of the picture is one of the document's
pub there : (s : Seen) (d : Document) (row col : ℕ) (answer found : Bool) → design_of d ≡ s.history.document → answer ≡ has_cell d.picture row col → answer ≡ found
    → has_cell s.history.document.rows row col ≡ found
there s d row col answer found is asked told = sym (ap (λ (e : Design). has_cell e.rows row col) is) ∙ (sym asked ∙ told)

pub within : (rows : Rows) (row col : ℕ) → has_cell rows row col ≡ true → (row < length rows) × (col < width_of rows)
within rows row col inside = grind (arith, nat_tests)
