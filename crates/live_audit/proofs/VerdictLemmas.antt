-- What a judgement by parts says of a document.
use Rattle.std.proofs.Common.{◌≡◌, ℕ, ◌<◌, ◌≤◌, Bool, List, [], length, Option, Some, None, unwrap_or, Result, Ok, MatchResult, refl, sym, ap, subst, ◌∙◌, true≢false, inl, inr, arith}
use Rattle.std.proofs.lemmas.Bool.{cases_lt}
use Rattle.line_facts.specs.Masks.{Masks}
use Rattle.picture.specs.Rows.{Rows}
use Rattle.picture.specs.declared.document.Document.{Document}
use Rattle.picture.specs.CellSet.{HasCell}
use Rattle.picture.specs.Document.{AreInside}
use Rattle.picture.specs.Laws.{SameCellsAreEqual}
use Rattle.picture.specs.Picture.{IsPicture}
use Rattle.clues.specs.ClueBook.{Clues, clues_of}
use Rattle.clues.specs.Solution.{IsOther}
use Rattle.clues.proofs.SolutionLaws.{other_fewer}
use Rattle.line_facts.specs.declared.meter.Meter.{Meter}
use Rattle.line_facts.specs.Counts.{Counts, counted}
use Rattle.line_facts.specs.FactSets.{IsBase}
use Rattle.justify.specs.Book.{Account}
use Rattle.second_search.specs.declared.keeper.Answer.TheVariants.{Filling}
use Rattle.second_search.specs.declared.keeper.Judged.{Judged}
use Rattle.second_search.specs.declared.keeper.Judged.TheVariants as judged
use Rattle.second_search.specs.declared.keeper.KeptPart.{KeptPart}
use Rattle.second_search.specs.Verdict.{Verdict as Judgement}
use Rattle.second_search.specs.Verdict as judgement
use Rattle.second_search.specs.Answer.{IsAnswer}
use Rattle.second_search.specs.JudgedParts.{AreTrue, Changes, Done, HasFilling, HasNoFilling, IsFilling, IsTrueOf, Judges, Starts, cells_at, parts_of}
use Rattle.second_search.specs.JudgedParts as judging
use Rattle.second_search.specs.Laws.{AllowancesBreakOff, SoundFacts}
use Rattle.second_search.specs.Parts.{AreParts, IsScene, board}
use Rattle.second_search.specs.Evaluations.{AreFew}
use Rattle.edits.specs.Design.{Design, design_of}
use Rattle.edits.specs.History.{History, history}
use Rattle.edits.specs.Laws.{MarksAreGivens}
use Rattle.live_audit.specs.declared.verdict.Verdict.{Verdict}
use Rattle.live_audit.specs.declared.work.Work.{Work}
use Rattle.live_audit.specs.Audit.{IsAuditOf, nothing_done}
use Rattle.live_audit.specs.Bench.{AreAnswersOf, AreGivenCells, IsAudited, IsGiven, Seen, seen}
use Rattle.live_audit.specs.Verdict.{Decides, IsOtherFor, IsToldBy, IsVerdictOn, ShowsOthers, WasDecided}

-- ---- the scene of a document

pub scene_is : MarksAreGivens → SoundFacts → (d : Document) (clues : Clues) (book : Account) → AreInside d.givens d.picture → IsPicture d.picture → IsAuditOf (design_of d) clues book
    → IsScene clues d.givens book.facts d.picture
scene_is marks sound d clues book inside is a =
    let base : IsBase d.givens d.picture book.base = record {
      same_shape = a.givens.same_shape;
      left = λ row col k r c.
          let m = marks d.picture d.givens inside row col in
          let l = a.givens.left row col k r c in
          (λ h. let o = l.0 h in (o.0, λ g. o.1 (m.0 g)), λ h. l.1 (h.0, λ g. h.1 (m.1 g)));
    } in
    record {
      is_picture = is;
      has_clues = sym a.clues_are;
      sound = sound.settled clues d.givens d.picture book.base book.facts a.map (sound.base clues d.givens d.picture book.base is base);
    }

-- ---- there is one set of the givens

same_givens : SameCellsAreEqual → (d : Design) (one other : List ℕ) → AreGivenCells d one → AreGivenCells d other → one ≡ other
same_givens same d one other a b =
    same one other a.set b.set (λ row col r c. (λ h. (b.are row col).1 ((a.are row col).0 h), λ h. (a.are row col).1 ((b.are row col).0 h)))

-- what is true for the givens of a document
pub answers_of : SameCellsAreEqual → (d : Design) (clues : Clues) (facts : Masks) (givens : List ℕ) (kept : List KeptPart) → AreGivenCells d givens → AreParts facts (parts_of kept)
    → AreTrue clues givens d.rows kept → AreAnswersOf d clues facts kept
answers_of same d clues facts givens kept g parts t = record {
  parts = parts;
  true_answers = λ others o.
      subst (λ (cells : List ℕ). AreTrue clues cells d.rows kept) (same_givens same d givens others g o) t;
}

-- ---- other pictures

pub other_for : (d : Design) (clues : Clues) (givens : List ℕ) (other : Rows) → AreGivenCells d givens → clues ≡ clues_of d.rows → IsOther clues (HasCell givens) d.rows other → IsOtherFor d other
other_for d clues givens other g e o =
    subst (λ (c : Clues). IsOther c (IsGiven d) d.rows other) e (other_fewer clues (HasCell givens) (IsGiven d) d.rows other (λ row col h. (g.are row col).1 h) o)

pub other_was : (d : Design) (clues : Clues) (givens : List ℕ) (other : Rows) → AreGivenCells d givens → clues ≡ clues_of d.rows → IsOtherFor d other → IsOther clues (HasCell givens) d.rows other
other_was d clues givens other g e o =
    subst (λ (c : Clues). IsOther c (HasCell givens) d.rows other) (sym e) (other_fewer (clues_of d.rows) (IsGiven d) (HasCell givens) d.rows other (λ row col h. (g.are row col).0 h) o)

-- ---- what determines a judgement

-- where no other filling was kept and none was found, none is kept
none_then : (old new : List KeptPart) (end : ℕ) → HasNoFilling old (length old) → Changes old new end → HasNoFilling new (length new)
none_then old new end none c i l f = elim (cases_lt i end) [
  | inl b ↦ subst IsFilling (c.before i b) f
  | inr b ↦ none i (let n = c.count in omega arith) (subst (λ (k : KeptPart). IsFilling k.answer) (c.behind i b) f)
]

allowed : (allowance : Option ℕ) (most : ℕ) → allowance ≡ Some most → allowance ≡ Some (unwrap_or allowance 0)
allowed None most e = cc
allowed (Some n) most e = refl

-- what is kept then, by the judgement
abbrev pub Keeps : List KeptPart → Judgement → Type 0
Keeps kept judgement.Unique = HasNoFilling kept (length kept)
Keeps kept judgement.Other = (i : ℕ) × HasFilling kept i
Keeps kept judgement.Undecided = HasNoFilling kept (length kept)

pub keeps_so : (clues : Clues) (facts : Masks) (picture : Rows) (allowance : Option ℕ) (old new : List KeptPart) (j : Judgement) (m n : ℕ) → Judges (board clues facts picture) allowance old new j m n
    → Keeps new j
keeps_so clues facts picture allowance old new judgement.Unique m n h = none_then old new (length old) h.none_kept h.noted
keeps_so clues facts picture allowance old new judgement.Other m n h = elim h [
  | inl k ↦ (k.at, subst (λ (ks : List KeptPart). HasFilling ks k.at) (sym k.same) k.is)
  | inr o ↦ (o.at, record { place = subst (λ k. o.at < k) (sym o.noted.count) o.stops.place; is = subst IsFilling (sym o.noted.here) tt })
]
keeps_so clues facts picture allowance old new judgement.Undecided m n h = none_then old new h.at h.none_kept h.noted

-- the first filling that is kept is another picture, where what is known of the parts is true
pub shows_others : (d : Design) (clues : Clues) (givens : List ℕ) (kept : List KeptPart) → AreGivenCells d givens → clues ≡ clues_of d.rows → AreTrue clues givens d.rows kept → ShowsOthers d kept
shows_others d clues givens kept g e t other f =
    let there : IsTrueOf clues givens d.rows (cells_at kept f.at) (Filling other) = subst (IsTrueOf clues givens d.rows (cells_at kept f.at)) f.is (t f.at f.place) in
    other_for d clues givens other g e there.is_other

-- what is kept determines the judgement of an answer
tells : AllowancesBreakOff
    → (d : Design) (clues : Clues) (facts : Masks) (givens : List ℕ) (allowance : Option ℕ) (old new : List KeptPart) (searched splits : ℕ) (answer : Judged) (j : Judgement) (is_decided : Bool)
    → AreGivenCells d givens → clues ≡ clues_of d.rows → IsAnswer clues givens d.rows answer → judging.AnswersAs new answer j → Judges (board clues facts d.rows) allowance old new j searched splits
    → WasDecided answer is_decided → ShowsOthers d new → IsToldBy d allowance new is_decided j
tells law d clues facts givens allowance old new searched splits judged.Unique j is_decided g e t a is by others =
    let none : Keeps new judgement.Unique = subst (Keeps new) a (keeps_so clues facts d.rows allowance old new j searched splits is) in
    record {
      others = others;
      other = λ i f. absurd (none i f.place f.is);
      unique = λ _ _. (a, λ other o. t other (other_was d clues givens other g e o));
      undecided = λ _ no. absurd (true≢false (sym by ∙ no));
    }
tells law d clues facts givens allowance old new searched splits (judged.Other other) j is_decided g e t a is by others =
    let k : Keeps new judgement.Other = subst (Keeps new) a.0 (keeps_so clues facts d.rows allowance old new j searched splits is) in
    record {
      others = others;
      other = λ i f. a.0;
      unique = λ none _. absurd (none k.0 k.1.place k.1.is);
      undecided = λ none _. absurd (none k.0 k.1.place k.1.is);
    }
tells law d clues facts givens allowance old new searched splits judged.Undecided j is_decided g e t a is by others =
    let none : Keeps new judgement.Undecided = subst (Keeps new) a (keeps_so clues facts d.rows allowance old new j searched splits is) in
    let most = law clues facts d.rows allowance old new searched splits (subst (λ (v : Judgement). Judges (board clues facts d.rows) allowance old new v searched splits) a is) in
    record {
      others = others;
      other = λ i f. absurd (none i f.place f.is);
      unique = λ _ yes. absurd (true≢false (sym yes ∙ by));
      undecided = λ _ _. (a, allowed allowance most.0 most.1);
    }

-- ---- a judgement of a scene that is the document's

-- what is known once a scene was judged
record Heard (clues : Clues) (facts : Masks) (givens : List ℕ) (picture : Rows) (allowance : Option ℕ) (old new : List KeptPart) (answer : Judged) (sb sa pb pa : ℕ) (mb ma : Meter)
    (cb ca : ℕ) : Type 0 where
  parts : AreParts facts (parts_of new)
  answers : AreTrue clues givens picture new
  j : Judgement
  said : judging.AnswersAs new answer j
  done : Done sb sa pb pa mb ma cb ca (Judges (board clues facts picture) allowance old new j)
  told : IsAnswer clues givens picture answer

-- what follows for the document
pub record Comes (d : Design) (clues : Clues) (facts : Masks) (allowance : Option ℕ) (old new : List KeptPart) (is_decided : Bool) (sb sa pb pa : ℕ) (mb ma : Meter) (cb ca : ℕ) : Type 0 where
  pub answers : AreAnswersOf d clues facts new
  pub judges : (j : Judgement) × (IsToldBy d allowance new is_decided j × Done sb sa pb pa mb ma cb ca (Judges (board clues facts d.rows) allowance old new j))

come : SameCellsAreEqual → AllowancesBreakOff → (d : Design) (clues : Clues) (facts : Masks) (givens : List ℕ) (allowance : Option ℕ) (old new : List KeptPart) (answer : Judged) (is_decided : Bool)
    (sb sa pb pa : ℕ) (mb ma : Meter) (cb ca : ℕ)
    → AreGivenCells d givens → clues ≡ clues_of d.rows → WasDecided answer is_decided → Heard clues facts givens d.rows allowance old new answer sb sa pb pa mb ma cb ca
    → Comes d clues facts allowance old new is_decided sb sa pb pa mb ma cb ca
come same law d clues facts givens allowance old new answer is_decided sb sa pb pa mb ma cb ca g e by h =
    let others = shows_others d clues givens new g e h.answers in
    record {
      answers = answers_of same d clues facts givens new g h.parts h.answers;
      judges = (h.j, (tells law d clues facts givens allowance old new h.done.searched h.done.splits answer h.j is_decided g e h.told h.said h.done.is by others, h.done));
    }

pub heard : {X : Type 0} → SameCellsAreEqual → AllowancesBreakOff → (d : Document) (clues sc : Clues) (facts sf : Masks) (sg : List ℕ) (sp : Rows) (allowance : Option ℕ) (old new : List KeptPart)
    (result : Result Judged X) (answer : Judged) (is_decided : Bool) (sb sa pb pa : ℕ) (mb ma : Meter) (cb ca : ℕ)
    → sc ≡ clues → sf ≡ facts → sg ≡ d.givens → sp ≡ d.picture → AreGivenCells (design_of d) d.givens → clues ≡ clues_of d.picture → WasDecided answer is_decided
    → result ≡ Ok answer → IsAnswer sc sg sp answer → AreParts sf (parts_of new) → AreTrue sc sg sp new
    → MatchResult result (λ judged. (j : Judgement) × (judging.AnswersAs new judged j × Done sb sa pb pa mb ma cb ca (Judges (board sc sf sp) allowance old new j))) (λ _. new ≡ old)
    → Comes (design_of d) clues facts allowance old new is_decided sb sa pb pa mb ma cb ca
heard {X = X} same law d clues sc facts sf sg sp allowance old new result answer is_decided sb sa pb pa mb ma cb ca ec ef eg ep g e by is told parts answers h =
    let k = subst (λ (x : Result Judged X). MatchResult x (λ judged. (j : Judgement) × (judging.AnswersAs new judged j × Done sb sa pb pa mb ma cb ca (Judges (board sc sf sp) allowance old new j)))
    (λ _. new ≡ old)) is h in
    let there : Heard sc sf sg sp allowance old new answer sb sa pb pa mb ma cb ca = record { parts = parts; answers = answers; j = k.0; said = k.1.0; done = k.1.1; told = told } in
    let here : Heard clues facts d.givens d.picture allowance old new answer sb sa pb pa mb ma cb ca = rw (ec, ef, eg, ep) at there in
    come same law (design_of d) clues facts d.givens allowance old new answer is_decided sb sa pb pa mb ma cb ca g e by here

-- ---- the same for a bench

-- the meter and the engine's calls count the same, and each search evaluates a line
each_called : (parts splits : ℕ) (search : Meter) (before after : ℕ) (Is : ℕ → ℕ → Type 0) → Done 0 parts 0 splits nothing_done search before after Is → after ≡ counted before search.evaluations
each_called parts splits search before after Is d =
    omega arith

each_evaluated : (parts splits : ℕ) (search : Meter) (before after : ℕ) (Is : ℕ → ℕ → Type 0) → Done 0 parts 0 splits nothing_done search before after Is → parts ≤ search.evaluations
each_evaluated parts splits search before after Is d =
    omega arith

-- what a meter counted from nothing is no more than what was done
pub few_counted : (allowance : Option ℕ) (facts : Masks) (parts evaluations before after : ℕ) (meter end : Meter) → meter ≡ nothing_done → Counts evaluations 0 meter end before after
    → AreFew allowance facts parts evaluations → AreFew allowance facts parts end.evaluations
few_counted None facts parts evaluations before after meter end e c few = tt
few_counted (Some most) facts parts evaluations before after meter end e c few =
    let none = ap (λ (m : Meter). m.evaluations) e in
    let all = c.evaluations in
    omega arith

-- a judgement of the present document decides the verdict of the bench
pub decided : (d : Document) (h : History) (clues : Clues) (book : Account) (kept next : List KeptPart) (allowance : Option ℕ) (work : Work) (search : Meter) (parts splits before after : ℕ)
    (old : Seen) (j : Judgement)
    → design_of d ≡ h.document → seen h clues book kept allowance work before ≡ old
    → Done 0 parts 0 splits nothing_done search before after (Judges (board clues book.facts d.picture) allowance kept next j)
    → AreFew allowance book.facts (length kept) search.evaluations
    → Decides old (seen h clues book next allowance (record { edit = work.edit; search = search; parts = parts; splits = splits }) after) j
decided d h clues book kept next allowance work search parts splits before after old j e was done few =
    let P : Design → Type 0 = λ x. Done 0 parts 0 splits nothing_done search before after (Judges (board clues book.facts x.rows) allowance kept next j) in
    let new : Seen = seen h clues book next allowance (record { edit = work.edit; search = search; parts = parts; splits = splits }) after in
    let here : Decides (seen h clues book kept allowance work before) new j =
    record { same = refl; work = subst P e done; calls = each_called parts splits search before after _ done; evaluated = each_evaluated parts splits search before after _ done; few = few } in
    subst (λ (s : Seen). Decides s new j) was here

-- the bench stays audited if only what is kept of the parts changes
pub audited_so : (d : Document) (h : History) (clues : Clues) (book : Account) (kept next : List KeptPart) (allowance : Option ℕ) (work more : Work) (before after : ℕ)
    → design_of d ≡ h.document → IsAudited (seen h clues book kept allowance work before) → AreAnswersOf (design_of d) clues book.facts next → IsAudited (seen h clues book next allowance more after)
audited_so d h clues book kept next allowance work more before after e a n =
    record { audit = a.audit; answers = subst (λ (x : Design). AreAnswersOf x clues book.facts next) e n }

-- a verdict on the bench after is one on the bench before
pub verdict_was : (old new : Seen) (verdict : Verdict) (j : Judgement) → Decides old new j → IsVerdictOn new.history.document new.allowance verdict
    → IsVerdictOn old.history.document old.allowance verdict
verdict_was old new verdict j d v =
    let h : new.history ≡ old.history = ap (λ (s : Seen). s.history) d.same in
    let a : new.allowance ≡ old.allowance = ap (λ (s : Seen). s.allowance) d.same in
    let there : IsVerdictOn old.history.document new.allowance verdict = subst (λ (x : History). IsVerdictOn x.document new.allowance verdict) h v in
    subst (λ (x : Option ℕ). IsVerdictOn old.history.document x verdict) a there

-- a bench that begins is audited
pub begins_audited : (d : Design) (depth : ℕ) (h : History) (clues : Clues) (book : Account) (facts : Masks) (kept : List KeptPart) (allowance : Option ℕ) (work : Work) (calls : ℕ)
    → h ≡ history d [] [] depth → IsAuditOf d clues book → facts ≡ book.facts → Starts facts kept → IsAudited (seen h clues book kept allowance work calls)
begins_audited d depth h clues book facts kept allowance work calls e a f s = record {
  audit = subst (λ (x : History). IsAuditOf x.document clues book) (sym e) a;
  answers = record { parts = subst (λ (x : List (List ℕ)). AreParts x (parts_of kept)) f s.parts; true_answers = λ givens are. s.true_answers clues givens h.document.rows };
}
