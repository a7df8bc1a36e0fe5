-- A session, line by line.
use Rattle.std.proofs.Common.{◌≡◌, inl, inr, ℕ, true, false, List, [], ◌∷◌, ◌++◌, take, Option, Some, None, Result, Ok, Err, refl, sym, ap, subst, ◌∙◌, append_assoc, append-nil}
use Rattle.std.proofs.lemmas.Bool.{cases_Bool}
use Rattle.std.specs.Io.KnownBytes.{Appends}
use Rattle.std.proofs.KnownBytes.{Appends-nil, Appends-trans, Consumes-nil, Consumes-trans}
use Rattle.picture.specs.Writers.{AppendsFront}
use Rattle.live_audit.specs.Bench.{Seen}
use Rattle.command_text.specs.declared.lines.Lines.{Lines}
use Rattle.command_text.specs.declared.request.Request.{Request}
use Rattle.command_text.specs.declared.session_fault.SessionFault.TheVariants as fault
use Rattle.command_text.specs.Lines.{BreaksOff, CutsNone, CutsOne, Hands, MayCome, ended_lines_of, lines_of, nothing_has_no_lines, request_of}
use Rattle.command_text.specs.Words.{Texts}
use Rattle.session.specs.Run.{HasRun}
use Rattle.session.specs.Session.{BrokenOff, Runs, Says, SaysToAll}

-- a call that answers a line has cut it, and one that answers none has reached the end
pub cuts_one : {E : Type 0} (had have : Option (List ℕ)) (old new : Lines) (found : Option Request) (asked : Request) (r : Result (Option Request) E) → r ≡ Ok found → found ≡ Some asked
    → Hands had have old new r → CutsOne had have old new asked
cuts_one {E} had have old new found asked r was is h = let P : Result (Option Request) E → Type 0 = λ o. Hands had have old new o in subst P (was ∙ ap Ok is) h

pub cuts_no_more : {E : Type 0} (had have : Option (List ℕ)) (old new : Lines) (found : Option Request) (r : Result (Option Request) E) → r ≡ Ok found → found ≡ None → Hands had have old new r
    → CutsNone had have old new
cuts_no_more {E} had have old new found r was is h = let P : Result (Option Request) E → Type 0 = λ o. Hands had have old new o in subst P (was ∙ ap Ok is) h

-- one line more
pub says_next : (front : Texts) (line said text : List ℕ) (old mid new : Seen) → SaysToAll front old said mid → Says mid (request_of line) text new
    → SaysToAll (front ++ line ∷ []) old (said ++ text) new
says_next [] line said text old mid new all next =
    (new, (text, ([], (ap (λ (xs : List ℕ). xs ++ text) all.0 ∙ sym (append-nil text), (subst (λ (s : Seen). Says s (request_of line) text new) all.1 next, (refl, refl))))))
says_next (first ∷ front) line said text old mid new (between, (head, (rest, (is, (says, all))))) next =
    (between, (head, (rest ++ text, (ap (λ (xs : List ℕ). xs ++ text) is ∙ append_assoc head rest text, (says, says_next front line rest text between mid new all next)))))

-- nothing was read yet
pub run_begins : (had held : Option (List ℕ)) (s : Seen) (l : Lines) → l.inbox ≡ [] → l.ended ≡ false → HasRun had had held held s s l
run_begins had held s l none on = record {
  front = [];
  came = [];
  read = Consumes-nil had;
  lines = λ rest may. ap lines_of (sym (ap (λ (xs : List ℕ). xs ++ rest) none));
  ended = λ still rest. ap ended_lines_of (sym (ap (λ (xs : List ℕ). xs ++ rest) none));
  end = λ met. absurd cc;
  said = [];
  answered = (refl, refl);
  wrote = Appends-nil held;
}

-- if `rest` may come after a call that read `more`, then `more ++ rest` may come after the bytes read before that call
may_more : (old new : Lines) (more rest : List ℕ) → (old.ended ≡ true → (more ≡ []) × (new.ended ≡ true)) → MayCome new rest → MayCome old (more ++ rest)
may_more old new more rest behind may met = let b = behind met in ap (λ (xs : List ℕ). xs ++ rest) b.0 ∙ may b.1

-- the end was not reached before if it is not reached now
still_on : (old new : Lines) (more : List ℕ) → (old.ended ≡ true → (more ≡ []) × (new.ended ≡ true)) → new.ended ≡ false → old.ended ≡ false
still_on old new more behind on = elim (cases_Bool old.ended) [
  | inl met ↦ let ended = (behind met).1 in absurd cc
  | inr still ↦ still
]

-- a line was cut, answered and written
pub run_goes_on : (had mid have held wrote holds : Option (List ℕ)) (first old new : Seen) (l next : Lines) (asked : Request) (text : List ℕ) → HasRun had mid held wrote first old l
    → CutsOne mid have l next asked
    → Says old asked text new → Appends wrote holds text → HasRun had have held holds first new next
run_goes_on had mid have held wrote holds first old new l next asked text run cut says sent =
    let c = cut.cuts in
    record {
      front = run.front ++ cut.line ∷ [];
      came = run.came ++ c.came;
      read = Consumes-trans had mid have run.came c.came run.read c.read;
      lines = λ rest may.
          ap lines_of (append_assoc run.came c.came rest) ∙ run.lines (c.came ++ rest) (may_more l next c.came rest c.behind may)
          ∙ ap (λ (xs : Texts). run.front ++ xs) (c.lines rest may) ∙ sym (append_assoc run.front (cut.line ∷ []) (lines_of (next.inbox ++ rest)));
      ended = λ on rest.
          ap ended_lines_of (append_assoc run.came c.came rest) ∙ run.ended (still_on l next c.came c.behind on) (c.came ++ rest)
          ∙ ap (λ (xs : Texts). run.front ++ xs) (c.ended on rest) ∙ sym (append_assoc run.front (cut.line ∷ []) (ended_lines_of (next.inbox ++ rest)));
      end = c.end run.end;
      said = run.said ++ text;
      answered = says_next run.front cut.line run.said text first old new run.answered (subst (λ (r : Request). Says old r text new) cut.asks says);
      wrote = Appends-trans held wrote holds run.said text run.wrote sent;
    }

-- the input ended
pub run_ends : (had mid have held holds : Option (List ℕ)) (first old : Seen) (l next : Lines) → HasRun had mid held holds first old l → CutsNone mid have l next
    → Runs had have held holds first old (Ok tt)
unfolding Runs
run_ends had mid have held holds first old l next run none =
    let c = none.cuts in
    let read = run.came ++ c.came in
    let all : lines_of read ≡ run.front =
    ap (λ (xs : List ℕ). lines_of (run.came ++ xs)) (sym (append-nil c.came)) ∙ run.lines (c.came ++ []) (may_more l next c.came [] c.behind (λ met. refl))
    ∙ ap (λ (xs : Texts). run.front ++ xs) (c.lines [] (λ met. refl) ∙ ap (λ (xs : List ℕ). lines_of (xs ++ [])) none.waiting ∙ nothing_has_no_lines) ∙ append-nil run.front in
    (read, (Consumes-trans had mid have run.came c.came run.read c.read, (c.end run.end none.met, (run.said, (subst (λ lines. SaysToAll lines first run.said old) (sym all) run.answered, run.wrote)))))

-- a read failed
pub run_is_cut : (had mid have held holds : Option (List ℕ)) (first old : Seen) (l : Lines) → HasRun had mid held holds first old l → BreaksOff mid have l
    → Runs had have held holds first old (Err fault.Read)
unfolding Runs
run_is_cut had mid have held holds first old l run b =
    let read = run.came ++ b.came in
    let all : ended_lines_of read ≡ run.front =
    run.ended b.unended b.came ∙ ap (λ (xs : Texts). run.front ++ xs) b.unfinished ∙ append-nil run.front in
    (read, (Consumes-trans had mid have run.came b.came run.read b.read, (run.said, (subst (λ lines. SaysToAll lines first run.said old) (sym all) run.answered, run.wrote))))

-- a line of whose answer a prefix was written, after the answers to the lines before it
broken_off : (lines : Texts) (held wrote holds : Option (List ℕ)) (first old new : Seen) (front behind : Texts) (line said text : List ℕ) → lines ≡ front ++ line ∷ behind
    → SaysToAll front first said old → Appends held wrote said → Says old (request_of line) text new → AppendsFront wrote holds text → BrokenOff lines held holds first new
broken_off lines held wrote holds first old new front behind line said text cut answered wrote_said says sent = record {
  before = front;
  line = line;
  behind = behind;
  cut = cut;
  between = old;
  said = said;
  text = text;
  answered = answered;
  says = says;
  front = sent.0;
  went_out = Appends-trans held wrote holds said (take sent.0 text) wrote_said sent.1;
}

-- a write failed
pub run_breaks : (had mid have held wrote holds : Option (List ℕ)) (first old new : Seen) (l next : Lines) (asked : Request) (text : List ℕ) → HasRun had mid held wrote first old l
    → CutsOne mid have l next asked
    → Says old asked text new → AppendsFront wrote holds text → Runs had have held holds first new (Err fault.Write)
unfolding Runs
run_breaks had mid have held wrote holds first old new l next asked text run cut says sent =
    let c = cut.cuts in
    let read = run.came ++ c.came in
    let spoken = subst (λ (r : Request). Says old r text new) cut.asks says in
    let all : MayCome next [] → lines_of read ≡ run.front ++ cut.line ∷ lines_of (next.inbox ++ []) = λ may.
    ap (λ (xs : List ℕ). lines_of (run.came ++ xs)) (sym (append-nil c.came)) ∙ run.lines (c.came ++ []) (may_more l next c.came [] c.behind may)
    ∙ ap (λ (xs : Texts). run.front ++ xs) (c.lines [] may) in
    let whole : next.ended ≡ false → ended_lines_of read ≡ run.front ++ cut.line ∷ ended_lines_of (next.inbox ++ []) = λ on.
    ap (λ (xs : List ℕ). ended_lines_of (run.came ++ xs)) (sym (append-nil c.came)) ∙ run.ended (still_on l next c.came c.behind on) (c.came ++ [])
    ∙ ap (λ (xs : Texts). run.front ++ xs) (c.ended on []) in
    let broken = λ (lines : Texts) (behind : Texts) (is : lines ≡ run.front ++ cut.line ∷ behind).
    broken_off lines held wrote holds first old new run.front behind cut.line run.said text is run.answered run.wrote spoken sent in (
      read,
      (
        Consumes-trans had mid have run.came c.came run.read c.read,
        elim (cases_Bool next.ended) [
          | inl met ↦ inr (c.end run.end met, broken (lines_of read) (lines_of (next.inbox ++ [])) (all (λ _. refl)))
          | inr on ↦ inl (broken (ended_lines_of read) (ended_lines_of (next.inbox ++ [])) (whole on))
        ],
      ),
    )
