-- Calls put one after the other.
use Rattle.std.proofs.Common.{◌≡◌, ◌≤◌, ℕ, arith, List, [], ◌∷◌, Option, Some, None, sym, ap, subst, ◌∙◌}
use Rattle.edits.specs.History.{History}
use Rattle.live_audit.specs.Bench.{Seen, IsAudited}
use Rattle.live_audit.specs.Calls.{Answers, AreRight, Asks, Allows, Proves, Call, IsRight, Lead, Machine, Strokes, after_call, after_calls, machine}
use Rattle.live_audit.specs.Laws.{ListsStayAudited}

-- the machine that a state shows
abbrev machine_of : Seen → Machine
machine_of s = machine s.history s.allowance

-- what is audited stays so if only the allowance and the engine's calls change
pub still_audited : (old new : Seen) → IsAudited old → (allowance : Option ℕ) → {calls : ℕ} → new ≡ record old { allowance = allowance; calls = calls } → IsAudited new
still_audited old new a allowance {calls} e =
    let same : IsAudited (record old { allowance = allowance; calls = calls }) = record { audit = a.audit; answers = a.answers } in
    subst IsAudited (sym e) same

answered_audited : (call : Call) (old new : Seen) → IsAudited old → Answers call old new → IsAudited new
answered_audited (Strokes stroke None) old new a h = h.1
answered_audited (Strokes stroke (Some fault)) old new a h = still_audited old new a old.allowance h.as_before
answered_audited (Asks None) old new a h = still_audited old new a old.allowance h
answered_audited (Asks (Some verdict)) old new a h = h.1.0
answered_audited (Allows allowance) old new a h = still_audited old new a allowance h
answered_audited (Proves None) old new a h = still_audited old new a old.allowance h
answered_audited (Proves (Some found)) old new a h = h.1.1

answered_machine : (call : Call) (old new : Seen) → Answers call old new → machine_of new ≡ after_call (machine_of old) call
answered_machine (Strokes stroke None) old new h =
    ap (λ (x : History). machine x new.allowance) h.0.history ∙ ap (λ (x : Option ℕ). machine (after_call (machine_of old) (Strokes stroke None)).history x) h.0.book.allowance
answered_machine (Strokes stroke (Some fault)) old new h = ap machine_of h.as_before
answered_machine (Asks None) old new h = ap machine_of h
answered_machine (Asks (Some verdict)) old new h = ap machine_of h.0.1.1.same
answered_machine (Allows allowance) old new h = ap machine_of h
answered_machine (Proves None) old new h = ap machine_of h
answered_machine (Proves (Some found)) old new h = ap machine_of h.1.0.same

answered_right : (call : Call) (old new : Seen) → Answers call old new → IsRight (machine_of old) call
answered_right (Strokes stroke None) old new h = h.0.lawful
answered_right (Strokes stroke (Some fault)) old new h = h.first
answered_right (Asks None) old new h = tt
answered_right (Asks (Some verdict)) old new h = h.1.1
answered_right (Allows allowance) old new h = tt
answered_right (Proves None) old new h = tt
answered_right (Proves (Some found)) old new h = h.0

all_audited : (calls : List Call) (old new : Seen) → IsAudited old → Lead calls old new → IsAudited new
all_audited [] old new a e = subst IsAudited (sym e) a
all_audited (call ∷ calls) old new a l =
    all_audited calls l.0 new (answered_audited call old l.0 a l.1.0) l.1.1.1

all_machine : (calls : List Call) (old new : Seen) → Lead calls old new → machine_of new ≡ after_calls (machine_of old) calls
all_machine [] old new e = ap machine_of e
all_machine (call ∷ calls) old new l =
    all_machine calls l.0 new l.1.1.1 ∙ ap (λ (m : Machine). after_calls m calls) (answered_machine call old l.0 l.1.0)

none_falls : (calls : List Call) (old new : Seen) → Lead calls old new → old.calls ≤ new.calls
none_falls [] old new e =
    let c : new.calls ≡ old.calls = ap (λ (s : Seen). s.calls) e in
    omega arith
none_falls (call ∷ calls) old new l =
    let rest = none_falls calls l.0 new l.1.1.1 in
    omega arith

all_right : (calls : List Call) (old new : Seen) → Lead calls old new → AreRight (machine_of old) calls
all_right [] old new e = tt
all_right (call ∷ calls) old new l =
    (answered_right call old l.0 l.1.0, subst (λ (m : Machine). AreRight m calls) (answered_machine call old l.0 l.1.0) (all_right calls l.0 new l.1.1.1))

pub stay_audited : ListsStayAudited
stay_audited = record { audited = all_audited; machine_is = all_machine; calls = none_falls; answers = all_right }

pub ruleset lists = (stay_audited)
