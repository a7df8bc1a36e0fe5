-- The effect of a session's lines on the machine of a history and an allowance.
use Rattle.std.proofs.Common.{◌≡◌, ◌≤◌, ◌⊎◌, ℕ, Bool, true, false, List, [], ◌∷◌, ◌++◌, Option, Some, None, inl, inr, refl, sym, ap, subst, ◌∙◌, arith, if◌then◌else◌}
use Rattle.std.specs.Option.{unwrap_or}
use Rattle.edits.specs.declared.fault.EditFault.{EditFault}
use Rattle.edits.specs.declared.fault.EditFault.TheVariants.{Memory}
use Rattle.edits.specs.History.{History}
use Rattle.live_audit.specs.Bench.{IsAudited, Seen}
use Rattle.live_audit.specs.Calls.{Accepts, IsAsBefore, Machine, machine}
use Rattle.live_audit.proofs.CallLemmas.{still_audited}
use Rattle.live_audit.specs.Stroke.{Edits, Redoes, Stroke, Undoes, after_stroke, stroke_fault}
use Rattle.command_text.specs.declared.command.Command.{Command}
use Rattle.command_text.specs.declared.command.Command.TheVariants as command
use Rattle.command_text.specs.declared.request.Request.{Request}
use Rattle.command_text.specs.declared.request.Request.TheVariants as request
use Rattle.session.specs.Laws.{AreAnswers, Follows, IsAt, SessionsStayAudited, after_answer, after_asked, after_command, after_lawful, after_lines}
use Rattle.command_text.specs.Lines.{request_of}
use Rattle.session.specs.Refusal.{edit_line, memory_line}
use Rattle.session.specs.Session.{IsShort, LacksMemory, Replies, Says, SaysStroke, SaysTo, SaysToAll}
use Rattle.session.specs.Texts.{done_text}
use Rattle.command_text.specs.Words.{Texts, is_word}

-- the machine that a state shows
abbrev pub machine_of : Seen → Machine
machine_of s = machine s.history s.allowance

-- ---- states that differ in what the machine does not hold

-- nothing changes
stays : (old new : Seen) → IsAudited old → new ≡ old → IsAt (machine_of old) new
stays old new a e = record { audited = subst IsAudited (sym e) a; machine_is = ap machine_of e }

-- nothing changes but the engine's calls
as_before : (old new : Seen) → IsAudited old → IsAsBefore old new → IsAt (machine_of old) new
as_before old new a e = record { audited = still_audited old new a old.allowance e; machine_is = ap machine_of e }

-- nothing changes but the allowance
allows : (old new : Seen) (allowance : Option ℕ) → IsAudited old → new ≡ record old { allowance = allowance } → IsAt (machine old.history allowance) new
allows old new allowance a e = record { audited = still_audited old new a allowance e; machine_is = ap machine_of e }

-- ---- an answer

-- the machine stays whatever the text says
either : (b : Bool) (m : Machine) → (if b then m else m) ≡ m
either true m = refl
either false m = refl

at_either : (text : List ℕ) (m : Machine) (s : Seen) → IsAt m s → IsAt (if is_word text memory_line then m else m) s
at_either text m s i = subst (λ (x : Machine). IsAt x s) (sym (either (is_word text memory_line) m)) i

-- an accepted stroke
led_on : (stroke : Stroke) (old new : Seen) → Accepts stroke old new → machine_of new ≡ after_asked (machine_of old) stroke
led_on stroke old new h =
    ap (λ (x : History). machine x new.allowance) h.history ∙ ap (λ (x : Option ℕ). machine (after_stroke old.history stroke) x) h.book.allowance
    ∙ sym (ap (after_lawful (machine_of old) stroke) h.lawful)

-- the text of an accepted stroke is not `refused: Memory`
not_memory : (text : List ℕ) (m n : Machine) → text ≡ done_text → (if is_word text memory_line then m else n) ≡ n
not_memory text m n e =
    let P : List ℕ → Type 0 = λ t. (if is_word t memory_line then m else n) ≡ n in
    let done : P done_text = refl in
    subst P (sym e) done

-- a refused stroke leaves the machine as it is, whether by an error or because memory ran out
left : (m : Machine) (stroke : Stroke) (found : Option EditFault) (fault : EditFault) (text : List ℕ) → fault ≡ unwrap_or found Memory → text ≡ edit_line fault
    → (if is_word text memory_line then m else after_lawful m stroke found) ≡ m
left m stroke (Some f) fault text e t = either (is_word text memory_line) m
left m stroke None fault text e t =
    let P : List ℕ → Type 0 = λ x. (if is_word x memory_line then m else after_lawful m stroke None) ≡ m in
    let short : P (edit_line Memory) = refl in
    subst P (sym (t ∙ ap edit_line e)) short

stroke_at : (stroke : Stroke) (old new : Seen) (text : List ℕ) → IsAudited old → SaysStroke stroke old text new
    → IsAt (if is_word text memory_line then machine_of old else after_asked (machine_of old) stroke) new
stroke_at stroke old new text a (inl h) = record {
  audited = h.1.1;
  machine_is = led_on stroke old new h.1.0 ∙ sym (not_memory text (machine_of old) (after_asked (machine_of old) stroke) h.0);
}
stroke_at stroke old new text a (inr h) =
    let same = as_before old new a h.1.1.as_before in
    subst (λ (x : Machine). IsAt x new) (sym (left (machine_of old) stroke (stroke_fault old.history stroke) h.0 text h.1.1.first h.1.0)) same

-- a text that shows a state
shown_at : (old new : Seen) (text : List ℕ) → IsAudited old → new ≡ old → IsAt (if is_word text memory_line then machine_of old else machine_of old) new
shown_at old new text a e = at_either text (machine_of old) new (stays old new a e)

-- out of memory
short_at : (old new : Seen) (text : List ℕ) → IsAudited old → LacksMemory old text new → IsAt (if is_word text memory_line then machine_of old else machine_of old) new
short_at old new text a h = at_either text (machine_of old) new (as_before old new a h.1)

said_at : (c : Command) (old new : Seen) (text : List ℕ) → IsAudited old → SaysTo old c text new → IsAt (if is_word text memory_line then machine_of old else after_command (machine_of old) c) new
said_at (command.Edit e) old new text a h = stroke_at (Edits e) old new text a h
said_at command.Undo old new text a h = stroke_at Undoes old new text a h
said_at command.Redo old new text a h = stroke_at Redoes old new text a h
said_at command.Clues old new text a h = shown_at old new text a h.1.1
said_at command.Map old new text a h = shown_at old new text a h.1.1
said_at command.Verdict old new text a h =
    let j = h.1.0 in
    at_either text (machine_of old) new (record { audited = j.1.0; machine_is = ap machine_of j.0.1.1.same })
said_at (command.Why row col colour) old new text a (inl h) = shown_at old new text a h.1.1
said_at (command.Why row col colour) old new text a (inr h) = shown_at old new text a h.1.1.1.1.1
said_at command.WritePpm old new text a h = shown_at old new text a h.1
said_at command.WriteNon old new text a (inl h) = shown_at old new text a h.1.1
said_at command.WriteNon old new text a (inr h) = shown_at old new text a h.1.1
said_at command.Report old new text a h =
    let j = h.1.0 in
    at_either text (machine_of old) new (record { audited = j.1.0; machine_is = ap machine_of j.0.1.1.same })
said_at command.Certify old new text a h =
    let l = h.1.1.1 in
    at_either text (machine_of old) new (record { audited = l.1; machine_is = ap machine_of l.0.same })
said_at (command.Assess is_off) old new text a h = at_either text (machine_of old) new (as_before old new a h.1.1.1)
said_at command.Path old new text a h = at_either text (machine_of old) new (as_before old new a h.1.1.1)
said_at (command.Allow allowance) old new text a h =
    let i = allows old new allowance a h.1 in
    record { audited = i.audited; machine_is = i.machine_is ∙ sym (not_memory text (machine_of old) (machine old.history allowance) h.0) }

lacked_at : (c : Command) (old new : Seen) (text : List ℕ) → IsAudited old → IsShort c old text new → IsAt (if is_word text memory_line then machine_of old else after_command (machine_of old) c) new
lacked_at (command.Edit e) old new text a h = absurd h
lacked_at command.Undo old new text a h = absurd h
lacked_at command.Redo old new text a h = absurd h
lacked_at command.Clues old new text a h = short_at old new text a h
lacked_at command.Map old new text a h = short_at old new text a h
lacked_at command.Verdict old new text a h = short_at old new text a h
lacked_at (command.Why row col colour) old new text a h = short_at old new text a h.1
lacked_at command.WritePpm old new text a h = short_at old new text a h
lacked_at command.WriteNon old new text a h = short_at old new text a h.1
lacked_at command.Report old new text a h = short_at old new text a h
lacked_at command.Certify old new text a h = short_at old new text a h
lacked_at (command.Assess is_off) old new text a h = short_at old new text a h
lacked_at command.Path old new text a h = short_at old new text a h
lacked_at (command.Allow allowance) old new text a h = absurd h

by_reply : (c : Command) (old new : Seen) (text : List ℕ) → IsAudited old → SaysTo old c text new ⊎ IsShort c old text new
    → IsAt (if is_word text memory_line then machine_of old else after_command (machine_of old) c) new
by_reply c old new text a (inl h) = said_at c old new text a h
by_reply c old new text a (inr h) = lacked_at c old new text a h

pub answered_at : (r : Request) (old new : Seen) (text : List ℕ) → IsAudited old → Says old r text new → IsAt (after_answer (machine_of old) r text) new
unfolding Says Replies
answered_at request.Nothing old new text a h = shown_at old new text a h.1
answered_at (request.Refused fault) old new text a h = shown_at old new text a h.1
answered_at (request.Command c) old new text a h = by_reply c old new text a h.0

same_calls : (old new : Seen) → new ≡ old → old.calls ≤ new.calls
same_calls old new e =
    let c : new.calls ≡ old.calls = ap (λ (s : Seen). s.calls) e in
    omega arith

called_at : (r : Request) (old new : Seen) (text : List ℕ) → Says old r text new → old.calls ≤ new.calls
unfolding Says Replies
called_at request.Nothing old new text h = same_calls old new h.1
called_at (request.Refused fault) old new text h = same_calls old new h.1
called_at (request.Command c) old new text h = h.1

-- ---- lines one after the other

follows : (lines : Texts) (old new : Seen) (text : List ℕ) → IsAudited old → SaysToAll lines old text new → Follows lines old text new
follows [] old new text a h = record {
  texts = [];
  text_is = h.0;
  answers = tt;
  last = stays old new a h.1;
  calls = same_calls old new h.1;
}
follows (line ∷ lines) old new text a (between, (first, (rest, (is, (says, all))))) =
    let m = machine_of old in
    let next = after_answer m (request_of line) first in
    let here : IsAt next between = answered_at (request_of line) old between first a says in
    let more = follows lines between new rest here.audited all in
    let one = called_at (request_of line) old between first says in
    let others = more.calls in
    record {
      texts = first ∷ more.texts;
      text_is = is ∙ ap (λ (xs : List ℕ). first ++ xs) more.text_is;
      answers = (
        record { old = old; new = between; before = stays old old a refl; says = says; after = here },
        subst (λ (x : Machine). AreAnswers x lines more.texts) here.machine_is more.answers,
      );
      last = subst (λ (x : Machine). IsAt (after_lines x lines more.texts) new) here.machine_is more.last;
      calls = omega (arith, one, others);
    }

pub stay_audited : SessionsStayAudited
stay_audited = follows

pub ruleset sessions = (stay_audited)
