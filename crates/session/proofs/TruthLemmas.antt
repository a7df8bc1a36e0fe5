-- What a session says is true of the history and the allowance, whatever is kept and counted.
use Rattle.std.proofs.Common.{◌≡◌, ◌<◌, ◌⊎◌, ◌↔◌, ℕ, List, [], ◌∷◌, ◌++◌, length, take, Option, Some, None, Result, Ok, Err, inl, inr, append_assoc, refl, sym, ap, subst, ◌∙◌, arith}
use Rattle.std.specs.List.{concat}
use Rattle.std.proofs.Math.Seq.{take-append_seam}
use Rattle.std.specs.Io.KnownBytes.{Appends}
use Rattle.line_facts.specs.Masks.{IsOnly, Masks}
use Rattle.picture.specs.Rows.{Rows, cell_at, line_of, row_at}
use Rattle.clues.specs.declared.block.Block.{Block}
use Rattle.clues.specs.ClueBook.{Clues, clue_at, clues_of}
use Rattle.line_facts.specs.FactSets.{Excludes, IsLeast, col_on, row_on}
use Rattle.line_facts.proofs.GridLaws.{same_line_length, shape_sym, shape_trans}
use Rattle.picture.specs.declared.line_id.LineId.{LineId}
use Rattle.justify.specs.Book.{Account, IsAccount, IsKnownBefore}
use Rattle.justify.specs.Exclusions.{CanHaveWithout, ForcesFrom}
use Rattle.justify.specs.Premises.{Mentions, Says as SaysPremise, SaysBut}
use Rattle.justify.specs.declared.premise.Premise.{Premise}
use Rattle.justify.specs.Reasons.{Argues}
use Rattle.justify.specs.Steps.{step_at}
use Rattle.justify.specs.declared.reason.Reason.{Reason}
use Rattle.edits.specs.Design.{Design}
use Rattle.fixpoint.specs.Fillings.{only}
use Rattle.edits.specs.History.{History}
use Rattle.cert_text.specs.Cert.{Certificate}
use Rattle.second_search.specs.JudgedParts.{BreaksOff, EndsBy, Judges, cells_at, answer_at}
use Rattle.second_search.specs.FixedOrder.{SplitsPast, alone}
use Rattle.second_search.specs.Verdict.{Verdict as Judgement}
use Rattle.second_search.specs.Verdict as judgement
use Rattle.second_search.specs.declared.counting.Ending.TheVariants as ending
use Rattle.second_search.specs.declared.keeper.Answer.{Answer}
use Rattle.second_search.specs.declared.keeper.Answer.TheVariants.{Unknown, Nothing, Filling}
use Rattle.second_search.specs.Parts.{IsPart, board}
use Rattle.second_search.proofs.KnownLaws.{only_is_closed}
use Rattle.second_search.proofs.PickLemmas.{IsRectangle, off_part, on_cells, rect_like, shape_of_picked}
use Rattle.second_search.proofs.VerdictLemmas.{each_is_part}
use Rattle.live_audit.specs.declared.verdict.Verdict.{Verdict}
use Rattle.live_audit.specs.declared.verdict.Verdict.TheVariants.{Unique, Ambiguous, Undecided}
use Rattle.live_audit.specs.declared.why.Why.{Why}
use Rattle.live_audit.specs.declared.why.Why.TheVariants.{Possible, Given, By}
use Rattle.live_audit.specs.Bench.{IsAudited, Seen}
use Rattle.live_audit.specs.Calls.{Machine, machine}
use Rattle.live_audit.specs.Certify.{Certifies}
use Rattle.live_audit.specs.Reason.{Explains}
use Rattle.live_audit.specs.Stroke.{Edits, Redoes, Stroke, Undoes, after_stroke, stroke_fault}
use Rattle.command_text.specs.declared.command.Command.{Command}
use Rattle.command_text.specs.declared.command.Command.TheVariants as command
use Rattle.command_text.specs.declared.request.Request.{Request}
use Rattle.command_text.specs.declared.request.Request.TheVariants as request
use Rattle.command_text.specs.declared.session_fault.SessionFault.{SessionFault}
use Rattle.command_text.specs.declared.session_fault.SessionFault.TheVariants as fault
use Rattle.command_text.specs.Lines.{request_of}
use Rattle.command_text.specs.Words.{Texts}
use Rattle.report_text.specs.ClueText.{clues_text}
use Rattle.report_text.specs.Report.{report_text}
use Rattle.session.specs.Session.{Answered, BrokenOff, IsShort, JudgesAs, Replies, Runs, Says, SaysStroke, SaysTo, SaysToAll}
use Rattle.session.specs.Refusal.{edit_line}
use Rattle.session.specs.Texts.{certified_text, verdict_word, why_text}
use Rattle.session.specs.Laws.{SessionsAreTrue}
use Rattle.session.specs.Truth.{AreReplies, AreTold, AreToldInPart, IsAnswered, IsPastSplits, IsReason, IsReply, IsTrueVerdict, MapOf, TellsProof, TellsStroke, TellsTruth, TellsWhy}
use Rattle.session.proofs.MachineLemmas.{answered_at, machine_of}

-- ---- the map

abbrev map_of : (s : Seen) → IsAudited s → MapOf s.history.document
map_of s a = record {
  base = s.book.base;
  map = s.book.facts;
  givens = a.audit.givens;
  least = subst (λ (c : Clues). IsLeast c s.book.base s.book.facts) a.audit.clues_are a.audit.map;
}

-- ---- the verdict

-- the part at which the search of the parts is broken off costs more than the allowance
splits_past : (clues : Clues) (facts : Masks) (picture : Rows) (allowance : Option ℕ) (cells : List ℕ) (answer : Answer) (searched n most : ℕ) → allowance ≡ Some most
    → EndsBy (board clues facts picture) allowance cells answer ending.BrokenOff searched n → SplitsPast clues picture (alone cells facts picture ∷ []) most
splits_past clues facts picture None cells Unknown searched n most e h = absurd cc
splits_past clues facts picture (Some allowed) cells Unknown searched n most e h =
    let same : Some n ≡ Some most = sym h.1.0 ∙ e in
    let is : n ≡ most = cc in
    subst (λ (x : ℕ). SplitsPast clues picture (alone cells facts picture ∷ []) x) is h.1.1.0
splits_past clues facts picture allowance cells Nothing searched n most e h = let no = h.0 in absurd cc
splits_past clues facts picture allowance cells (Filling other) searched n most e h = let no = h.0 in absurd cc

-- the facts in which a part is searched: those of the map on the part, and elsewhere only the picture's colours
past_of : (s : Seen) (cells : List ℕ) (most : ℕ) → IsAudited s → IsPart s.book.facts cells
    → SplitsPast (clues_of s.history.document.rows) s.history.document.rows (alone cells s.book.facts s.history.document.rows ∷ []) most
    → IsPastSplits s.history.document s.book.facts most
past_of s cells most a is past =
    let picture = s.history.document.rows in
    let map = s.book.facts in
    let own = only_is_closed in
    let rectangle : IsRectangle picture = rect_like s.book.base picture (shape_sym a.audit.givens.same_shape) a.audit.account.base_facts.rectangular in
    let like = own.same_shape picture in
    let rect : IsRectangle (only picture) = rect_like picture (only picture) like rectangle in
    let part = is.from in
    let map_like = shape_trans (shape_sym (shape_trans a.audit.givens.same_shape a.audit.map.holds.same_shape)) like in
    record {
      row = is.row;
      col = is.col;
      is_open = part.is_open;
      facts = alone cells map picture;
      same_shape = shape_trans like (shape_sym (shape_of_picked cells map (only picture) rect));
      on_part = λ r c chained. on_cells cells map (only picture) r c rect map_like ((part.members r c).1 chained);
      elsewhere = λ r c l m out.
          let wide : c < length (row_at picture r) = let e = rectangle r l in omega arith in
          let leaves = own.leaves picture r c in
          let here : IsOnly (cell_at (only picture) r c) (cell_at picture r c) = λ k. ((λ bit. ((leaves k).0 bit).1), (λ e. (leaves k).1 (wide, e))) in
          let off = off_part cells map (only picture) r c rect (λ has. out ((part.members r c).0 has)) in
          subst (λ (mask : ℕ). IsOnly mask (cell_at picture r c)) (sym off) here;
      goes_on = past;
    }

-- where a bench's picture is left undecided, some part of its map costs more than the allowance
breaks_off : (s new : Seen) (searched splits most : ℕ) → IsAudited s → s.allowance ≡ Some most
    → BreaksOff (board s.clues s.book.facts s.history.document.rows) s.allowance s.kept new.kept searched splits → IsPastSplits s.history.document s.book.facts most
breaks_off s new searched splits most a e b =
    let d = s.history.document in
    let cells = cells_at s.kept b.at in
    let past = splits_past s.clues s.book.facts d.rows s.allowance cells (answer_at s.kept b.at) b.stops.searched_here b.stops.splits_here most e b.stops.here in
    past_of s cells most a (each_is_part s.book.facts s.kept a.answers.parts b.at b.stops.place)
    (subst (λ (c : Clues). SplitsPast c d.rows (alone cells s.book.facts d.rows ∷ []) most) a.audit.clues_are past)

true_verdict : (old new : Seen) (verdict : Verdict) → IsAudited old → JudgesAs old new verdict → IsTrueVerdict old.history.document old.book.facts old.allowance verdict
true_verdict old new Unique a h = record { is_true = h.1.1; undecided = λ splits no. absurd cc }
true_verdict old new (Ambiguous other) a h = record { is_true = h.1.1; undecided = λ splits no. absurd cc }
true_verdict old new (Undecided most) a h = record {
  is_true = h.1.1;
  undecided = λ splits is.
      let tells = h.0 in
      let j = tells.0 in
      let work = tells.1.1.work in
      let P : Judgement → Type 0 = λ x. Judges (board old.clues old.book.facts old.history.document.rows) old.allowance old.kept new.kept x work.searched work.splits in
      let broken : P judgement.Undecided = subst P tells.1.0.0 work.is in
      let same : most ≡ splits = cc in
      subst (IsPastSplits old.history.document old.book.facts) same (breaks_off old new work.searched work.splits most a h.1.1 broken);
}

-- ---- a reason

-- what is known before a step is excluded after all steps
known_behind : (book : Account) (n row col k : ℕ) → IsAccount book → n < length book.steps → IsKnownBefore book.base book.steps n row col k → Excludes book.facts row col k
known_behind book n row col k is l (inl base) = λ left. base ((is.behind.leaves row col k).0 left).0
known_behind book n row col k is l (inr drawn) =
    let before = drawn.before in
    λ left. ((is.behind.leaves row col k).0 left).1 (record { which = drawn.which; before = omega arith; draws = drawn.draws })

-- a premise that says something of a cell mentions it
mentioned : (premises : List Premise) (i j : ℕ) → SaysPremise premises i j → Mentions premises i
mentioned premises i j says = record { which = says.which; within = says.within; here = says.here }

true_reason : (s : Seen) (row col k : ℕ) (reason : Reason) → IsAudited s → Argues s.clues s.book row col k reason
    → IsReason s.history.document s.book.facts row col k reason.line reason.premises
true_reason s row col k reason a h =
    let d = s.history.document in
    let line = reason.line in
    let premises = reason.premises in
    let is = a.audit.account in
    let step = step_at s.book.steps reason.step in
    let follows = is.follows reason.step h.in_book in
    let P : LineId → Type 0 = λ line. (i j : ℕ) → SaysPremise step.premises i j → IsKnownBefore s.book.base s.book.steps reason.step (row_on line.axis line.at i) (col_on line.axis line.at i) j in
    let before : P line = subst P (sym h.line) follows.known in
    let clue : clue_at s.clues line ≡ clue_at (clues_of d.rows) line = ap (λ (c : Clues). clue_at c line) a.audit.clues_are in
    let cells : length (line_of s.book.base line) ≡ length (line_of d.rows line) = same_line_length d.rows s.book.base line a.audit.givens.same_shape in
    let Forces : List Block → ℕ → Type 0 = λ c n. ForcesFrom c n (SaysPremise premises) h.place k in
    let Trims : List Block → ℕ → Type 0 = λ c n. (i j : ℕ) → SaysPremise premises i j → CanHaveWithout c n (SaysBut premises i) h.place k in
    let trimmed : Trims (clue_at s.clues line) (length (line_of s.book.base line)) = λ i j says. h.support.trimmed i (mentioned premises i j says) in
    record {
      place = h.place;
      in_row = h.in_row;
      in_column = h.in_column;
      are = h.support.are;
      known = λ i j says. known_behind s.book reason.step _ _ j is h.in_book (before i j (h.support.among i j says));
      forced = subst (λ (c : List Block). Forces c (length (line_of d.rows line))) clue (subst (Forces (clue_at s.clues line)) cells h.support.forced);
      trimmed = subst (λ (c : List Block). Trims c (length (line_of d.rows line))) clue (subst (Trims (clue_at s.clues line)) cells trimmed);
      apart = h.apart;
    }

true_why : (s : Seen) (row col k : ℕ) (why : Why) (text : List ℕ) (a : IsAudited s) → Explains s row col k why → text ≡ why_text why → TellsWhy s.history.document (map_of s a) row col k text
true_why s row col k Possible text a h shown = inl (shown, h)
true_why s row col k Given text a h shown = inr (inl (shown, h))
true_why s row col k (By reason) text a h shown = inr (inr (h.0, (reason.line, (reason.premises, (true_reason s row col k reason a h.1, shown)))))

-- ---- a certificate

certified : (d : Design) (found : Option Certificate) (text : List ℕ) → Certifies d found → text ≡ certified_text found → TellsProof d text
certified d None text h shown = inl (shown, h)
certified d (Some cert) text h shown =
    inr (
      cert,
      (
        record {
          form = h.0.form;
          givens = h.0.givens;
          writable = h.0.is_cert.lines;
          proof = h.0.proof;
          no_other = h.1;
        },
        shown,
      ),
    )

-- ---- one command

-- an edit, an undo or a redo
stroke_told : (stroke : Stroke) (old new : Seen) (text : List ℕ) → SaysStroke stroke old text new
    → TellsStroke (machine_of old) (stroke_fault old.history stroke) (after_stroke old.history stroke) text (machine_of new)
stroke_told stroke old new text (inl h) =
    let accepts = h.1.0 in
    let history = ap (λ (x : History). machine x new.allowance) accepts.history in
    let allowance = ap (λ (x : Option ℕ). machine (after_stroke old.history stroke) x) accepts.book.allowance in
    inl (accepts.lawful, (h.0, history ∙ allowance))
stroke_told stroke old new text (inr h) =
    inr (h.1.0 ∙ ap edit_line h.1.1.first, ap machine_of h.1.1.as_before)

said_told : (c : Command) (old new : Seen) (text : List ℕ) → IsAudited old → SaysTo old c text new → IsAnswered (machine_of old) c text (machine_of new)
said_told (command.Edit e) old new text a h = stroke_told (Edits e) old new text h
said_told command.Undo old new text a h = stroke_told Undoes old new text h
said_told command.Redo old new text a h = stroke_told Redoes old new text h
said_told command.Clues old new text a h =
    ((map_of old a, inl (h.1.0 ∙ ap clues_text a.audit.clues_are)), ap machine_of h.1.1)
said_told command.Map old new text a h = ((map_of old a, inl h.1.0), ap machine_of h.1.1)
said_told command.Verdict old new text a h =
    ((map_of old a, inl (h.0, (true_verdict old new h.0 a h.1.0, h.1.1))), ap machine_of h.1.0.0.1.1.same)
said_told (command.Why row col k) old new text a (inl h) = ((map_of old a, inl (h.0, h.1.0)), ap machine_of h.1.1)
said_told (command.Why row col k) old new text a (inr h) =
    let why = h.1 in
    let shown = why.1.1.1 in
    ((map_of old a, inr (h.0, inl (true_why old row col k why.0 text a why.1.0 shown.0))), ap machine_of shown.1)
said_told command.WritePpm old new text a h = ((map_of old a, inl h.0), ap machine_of h.1)
said_told command.WriteNon old new text a (inl h) = ((map_of old a, inr (h.0, inl h.1.0)), ap machine_of h.1.1)
said_told command.WriteNon old new text a (inr h) = ((map_of old a, inl (h.0, h.1.0)), ap machine_of h.1.1)
said_told command.Report old new text a h =
    let verdict = h.0 in
    let d = old.history.document in
    let report : Clues → List ℕ = λ clues. report_text d clues old.book.facts (verdict_word verdict) (length old.history.past) (length old.history.future) in
    let shown : text ≡ report (clues_of d.rows) = h.1.1 ∙ ap report a.audit.clues_are in
    ((map_of old a, inl (verdict, (true_verdict old new verdict a h.1.0, shown))), ap machine_of h.1.0.0.1.1.same)
said_told command.Certify old new text a h =
    ((map_of old a, inl (certified old.history.document h.0 text h.1.0 h.1.1.0)), ap machine_of h.1.1.1.0.same)
said_told (command.Assess is_off) old new text a h =
    ((map_of old a, inl (h.0, (h.1.0, h.1.1.0))), ap machine_of h.1.1.1)
said_told command.Path old new text a h = ((map_of old a, inl (h.0, (h.1.0, h.1.1.0))), ap machine_of h.1.1.1)
said_told (command.Allow allowance) old new text a h = (h.0, ap machine_of h.1)

lacked_told : (c : Command) (old new : Seen) (text : List ℕ) → IsAudited old → IsShort c old text new → IsAnswered (machine_of old) c text (machine_of new)
lacked_told (command.Edit e) old new text a h = absurd h
lacked_told command.Undo old new text a h = absurd h
lacked_told command.Redo old new text a h = absurd h
lacked_told command.Clues old new text a h = ((map_of old a, inr h.0), ap machine_of h.1)
lacked_told command.Map old new text a h = ((map_of old a, inr h.0), ap machine_of h.1)
lacked_told command.Verdict old new text a h = ((map_of old a, inr h.0), ap machine_of h.1)
lacked_told (command.Why row col k) old new text a h = ((map_of old a, inr (h.0, inr h.1.0)), ap machine_of h.1.1)
lacked_told command.WritePpm old new text a h = ((map_of old a, inr h.0), ap machine_of h.1)
lacked_told command.WriteNon old new text a h = ((map_of old a, inr (h.0, inr h.1.0)), ap machine_of h.1.1)
lacked_told command.Report old new text a h = ((map_of old a, inr h.0), ap machine_of h.1)
lacked_told command.Certify old new text a h = ((map_of old a, inr h.0), ap machine_of h.1)
lacked_told (command.Assess is_off) old new text a h = ((map_of old a, inr h.0), ap machine_of h.1)
lacked_told command.Path old new text a h = ((map_of old a, inr h.0), ap machine_of h.1)
lacked_told (command.Allow allowance) old new text a h = absurd h

told_by : (c : Command) (old new : Seen) (text : List ℕ) → IsAudited old → SaysTo old c text new ⊎ IsShort c old text new → IsAnswered (machine_of old) c text (machine_of new)
told_by c old new text a (inl h) = said_told c old new text a h
told_by c old new text a (inr h) = lacked_told c old new text a h

replied : (r : Request) (old new : Seen) (text : List ℕ) → IsAudited old → Says old r text new → IsReply (machine_of old) r text (machine_of new)
unfolding Says Replies
replied request.Nothing old new text a h = (h.0, ap machine_of h.1)
replied (request.Refused fault) old new text a h = (h.0, ap machine_of h.1)
replied (request.Command c) old new text a h = told_by c old new text a h.0

-- ---- lines one after the other

record IsToldTo (lines : Texts) (old : Seen) (text : List ℕ) (new : Seen) : Type 0 where
  texts : Texts
  text_is : text ≡ concat texts
  replies : AreReplies (machine_of old) lines texts (machine_of new)
  audited : IsAudited new

all_told : (lines : Texts) (old new : Seen) (text : List ℕ) → IsAudited old → SaysToAll lines old text new → IsToldTo lines old text new
all_told [] old new text a h = record { texts = []; text_is = h.0; replies = ap machine_of h.1; audited = subst IsAudited (sym h.1) a }
all_told (line ∷ lines) old new text a (between, (first, (rest, (is, (says, all))))) =
    let more = all_told lines between new rest (answered_at (request_of line) old between first a says).audited all in
    record {
      texts = first ∷ more.texts;
      text_is = is ∙ ap (λ (xs : List ℕ). first ++ xs) more.text_is;
      replies = (machine_of between, (replied (request_of line) old between first a says, more.replies));
      audited = more.audited;
    }

-- ---- a whole session

told : (lines : Texts) (had has : Option (List ℕ)) (old new : Seen) → IsAudited old → Answered lines had has old new → AreTold lines had has (machine_of old) (machine_of new)
told lines had has old new a (text, (says, wrote)) =
    let all = all_told lines old new text a says in
    record { texts = all.texts; replies = all.replies; went_out = subst (Appends had has) all.text_is wrote }

-- one more line and its text
one_more : (m between last : Machine) (lines texts : Texts) (line text : List ℕ) → AreReplies m lines texts between → IsReply between (request_of line) text last
    → AreReplies m (lines ++ line ∷ []) (texts ++ text ∷ []) last
one_more m between last [] [] line text are is = (last, (subst (λ (n : Machine). IsReply n (request_of line) text last) are is, refl))
one_more m between last [] (first ∷ texts) line text are is = absurd are
one_more m between last (first ∷ lines) [] line text are is = absurd are
one_more m between last (first ∷ lines) (its ∷ texts) line text (next, (reply, rest)) is = (next, (reply, one_more next between last lines texts line text rest is))

told_in_part : (lines : Texts) (had has : Option (List ℕ)) (old new : Seen) → IsAudited old → BrokenOff lines had has old new → AreToldInPart lines had has (machine_of old) (machine_of new)
told_in_part lines had has old new a b =
    let all = all_told b.before old b.between b.said a b.answered in
    let reply = replied (request_of b.line) b.between new b.text all.audited b.says in
    let first : Texts = b.before ++ b.line ∷ [] in
    let cut : lines ≡ first ++ b.behind = b.cut ∙ sym (append_assoc b.before (b.line ∷ []) b.behind) in
    let taken : take (length first) lines ≡ first = ap (λ (xs : Texts). take (length first) xs) cut ∙ take-append_seam first b.behind in
    let replies = one_more (machine_of old) (machine_of b.between) (machine_of new) b.before all.texts b.line b.text all.replies reply in
    record {
      answered = length first;
      texts = all.texts;
      text = b.text;
      replies = subst (λ (xs : Texts). AreReplies (machine_of old) xs (all.texts ++ b.text ∷ []) (machine_of new)) (sym taken) replies;
      front = b.front;
      went_out = subst (λ (xs : List ℕ). Appends had has (xs ++ take b.front b.text)) all.text_is b.went_out;
    }

-- what a session says on an audited bench is true
pub tells_truth : (had have held holds : Option (List ℕ)) (old new : Seen) (r : Result (Unit {0}) SessionFault) → IsAudited old → Runs had have held holds old new r
    → TellsTruth had have held holds (machine_of old) (machine_of new) r
unfolding Runs
tells_truth had have held holds old new (Ok done) a (read, (consumes, (end, said))) = (read, (consumes, (end, told _ held holds old new a said)))
tells_truth had have held holds old new (Err fault.Read) a (read, (consumes, said)) = (read, (consumes, told _ held holds old new a said))
tells_truth had have held holds old new (Err fault.Write) a (read, (consumes, inl cut)) = (read, (consumes, inl (told_in_part _ held holds old new a cut)))
tells_truth had have held holds old new (Err fault.Write) a (read, (consumes, inr (end, cut))) = (read, (consumes, inr (end, told_in_part _ held holds old new a cut)))

pub are_true : SessionsAreTrue
are_true = tells_truth

pub ruleset truths = (are_true)
