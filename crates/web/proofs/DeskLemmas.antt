-- The handles of a desk over any list of calls.
use Rattle.std.proofs.Common.{◌≡◌, ◌≢◌, ◌≤◌, ◌<◌, inl, inr, ℕ, ◌+◌, suc, zero, Bool, cond, List, [], ◌∷◌, ◌++◌, Option, None, Some, refl, sym, ap, subst, ◌∙◌, set, get_or, arith}
use Rattle.std.proofs.lemmas.Bool.Decides.{eqb_tells}
use Rattle.std.proofs.lemmas.Iterator.Adapters.{position_from-zero}
use Rattle.std.specs.List.{position_from, remove}
use Rattle.std.proofs.Math.Dec.{eqb}
use Rattle.live_audit.specs.Bench.{Seen}
use Rattle.program_options.specs.declared.options.Options.{Options}
use Rattle.web.specs.declared.desk.Desk.{Desk}
use Rattle.web.specs.declared.desk.Seat.{Seat}
use Rattle.web.specs.Desk.{Closes, ClosesAt, IsClosed, IsKept, Opens, Says, SaysAt, place_of, seat}
use Rattle.web.specs.Laws.{AreApart, AreGiven, Call, ClosedStayClosed, DesksStayOrderly, Does, DoesAll, IsOrderly, Open, Say, Close, Other, OthersStay, bench_of}

-- ---- one bench at the front

none_some : {X : Type 0} {x : X} → Some x ≡ None → ⊥
none_some e = subst (λ (o : Option _). elim o as (λ _. Type 0) [ None ↦ ⊥ | Some y ↦ Unit {0} ]) e tt

hit : (s : Seat) (ss : List Seat) (o : ℕ) → s.handle ≡ o → bench_of (s ∷ ss) o ≡ Some s.bench
hit s ss o e = elim (eqb_tells s.handle o) [ inl t ↦ ap (λ (b : Bool). cond b (Some s.bench) (bench_of ss o)) t.0 | inr f ↦ absurd (f.1 e) ]

skip : (s : Seat) (ss : List Seat) (o : ℕ) → s.handle ≢ o → bench_of (s ∷ ss) o ≡ bench_of ss o
skip s ss o n = elim (eqb_tells s.handle o) [ inl t ↦ absurd (n t.1) | inr f ↦ ap (λ (b : Bool). cond b (Some s.bench) (bench_of ss o)) f.0 ]

-- where no bench has the handle, the first has another, and the rest have none
split_none : (s : Seat) (ss : List Seat) (o : ℕ) → bench_of (s ∷ ss) o ≡ None → (s.handle ≢ o) × (bench_of ss o ≡ None)
split_none s ss o e = elim (eqb_tells s.handle o) [ inl t ↦ absurd (none_some (sym (hit s ss o t.1) ∙ e)) | inr f ↦ (f.1, sym (skip s ss o f.1) ∙ e) ]

-- ---- places

-- the first bench with the handle is at that place
abbrev IsAt : List Seat → ℕ → ℕ → Type 0
IsAt [] h k = ⊥
IsAt (s ∷ ss) h zero = s.handle ≡ h
IsAt (s ∷ ss) h (suc k) = (s.handle ≢ h) × IsAt ss h k

from_none : (ss : List Seat) (h i : ℕ) → bench_of ss h ≡ None → position_from (λ (s : Seat). eqb s.handle h) i ss ≡ None
from_none [] h i e = refl
from_none (s ∷ ss) h i e =
    let t = split_none s ss h e in
    elim (eqb_tells s.handle h) [ inl y ↦ absurd (t.0 y.1) | inr f ↦ ap (λ (b : Bool). cond b (Some i) (position_from (λ (r : Seat). eqb r.handle h) (i + 1) ss)) f.0 ∙ from_none ss h (i + 1) t.1 ]

place_none : (ss : List Seat) (h : ℕ) → bench_of ss h ≡ None → place_of ss h ≡ None
place_none ss h e = position_from-zero (λ (s : Seat). eqb s.handle h) ss ∙ from_none ss h 0 e

some_inj : {x y : ℕ} → Some x ≡ Some y → x ≡ y
some_inj {x} e = ap (λ (o : Option ℕ). elim o [ None ↦ x | Some z ↦ z ]) e

from_some : (ss : List Seat) (h i at : ℕ) → position_from (λ (s : Seat). eqb s.handle h) i ss ≡ Some at → (k : ℕ) × ((at ≡ i + k) × IsAt ss h k)
from_some [] h i at e = absurd (none_some (sym e))
from_some (s ∷ ss) h i at e =
    elim (eqb_tells s.handle h) [
      | inl y ↦ (0, (omega (arith, some_inj (sym (ap (λ (b : Bool). cond b (Some i) (position_from (λ (r : Seat). eqb r.handle h) (i + 1) ss)) y.0) ∙ e)), y.1))
      | inr f ↦
          let g = from_some ss h (i + 1) at (sym (ap (λ (b : Bool). cond b (Some i) (position_from (λ (r : Seat). eqb r.handle h) (i + 1) ss)) f.0) ∙ e) in
          (suc g.0, (omega (arith, g.1.0), (f.1, g.1.1)))
    ]

place_some : (ss : List Seat) (h at : ℕ) → place_of ss h ≡ Some at → IsAt ss h at
place_some ss h at e =
    let g = from_some ss h 0 at (sym (position_from-zero (λ (s : Seat). eqb s.handle h) ss) ∙ e) in
    let same : g.0 ≡ at = omega (arith, g.1.0) in
    subst (λ (k : ℕ). IsAt ss h k) same g.1.1

at_given : (ss : List Seat) (h k given : ℕ) → AreGiven given ss → IsAt ss h k → h ≤ given
at_given [] h k given a i = absurd i
at_given (s ∷ ss) h zero given a i = subst (λ (n : ℕ). n ≤ given) i a.0.1
at_given (s ∷ ss) h (suc k) given a i = at_given ss h k given a.1 i.1

at_handle : (ss : List Seat) (h k : ℕ) (d : Seat) → IsAt ss h k → (get_or ss k d).handle ≡ h
at_handle [] h k d i = absurd i
at_handle (s ∷ ss) h zero d i = i
at_handle (s ∷ ss) h (suc k) d i = at_handle ss h k d i.1

-- ---- a bench is set

-- where a new bench with the same handle is set, other handles keep their benches
at_set : (ss : List Seat) (h k o : ℕ) (new : Seat) → IsAt ss h k → new.handle ≡ h → h ≢ o → bench_of (set ss k new) o ≡ bench_of ss o
at_set [] h k o new i e n = absurd i
at_set (s ∷ ss) h zero o new i e n = skip new ss o (λ f. n (sym e ∙ f)) ∙ sym (skip s ss o (λ f. n (sym i ∙ f)))
at_set (s ∷ ss) h (suc k) o new i e n = ap (λ (r : Option Seen). cond (eqb s.handle o) (Some s.bench) r) (at_set ss h k o new i.1 e n)

at_some : (ss : List Seat) (h k : ℕ) → IsAt ss h k → bench_of ss h ≡ None → ⊥
at_some [] h k i e = absurd i
at_some (s ∷ ss) h zero i e = (split_none s ss h e).0 i
at_some (s ∷ ss) h (suc k) i e = at_some ss h k i.1 (split_none s ss h e).1

none_set : (ss : List Seat) (h k o : ℕ) (new : Seat) → IsAt ss h k → new.handle ≡ h → bench_of ss o ≡ None → bench_of (set ss k new) o ≡ None
none_set ss h k o new i e none = at_set ss h k o new i e (λ same. at_some ss h k i (subst (λ (n : ℕ). bench_of ss n ≡ None) (sym same) none)) ∙ none

apart_set : (ss : List Seat) (h k : ℕ) (new : Seat) → IsAt ss h k → new.handle ≡ h → AreApart ss → AreApart (set ss k new)
apart_set [] h k new i e a = absurd i
apart_set (s ∷ ss) h zero new i e a = (subst (λ (n : ℕ). bench_of ss n ≡ None) (i ∙ sym e) a.0, a.1)
apart_set (s ∷ ss) h (suc k) new i e a = (none_set ss h k s.handle new i.1 e a.0, apart_set ss h k new i.1 e a.1)

given_set : (ss : List Seat) (h k given : ℕ) (new : Seat) → IsAt ss h k → new.handle ≡ h → AreGiven given ss → AreGiven given (set ss k new)
given_set [] h k given new i e a = absurd i
given_set (s ∷ ss) h zero given new i e a = (subst (λ (n : ℕ). (1 ≤ n) × (n ≤ given)) (i ∙ sym e) a.0, a.1)
given_set (s ∷ ss) h (suc k) given new i e a = (a.0, given_set ss h k given new i.1 e a.1)

-- ---- a bench is removed

none_removed : (ss : List Seat) (k o : ℕ) → bench_of ss o ≡ None → bench_of (remove ss k) o ≡ None
none_removed [] zero o e = refl
none_removed [] (suc k) o e = refl
none_removed (s ∷ ss) zero o e = (split_none s ss o e).1
none_removed (s ∷ ss) (suc k) o e = let t = split_none s ss o e in skip s (remove ss k) o t.0 ∙ none_removed ss k o t.1

apart_removed : (ss : List Seat) (k : ℕ) → AreApart ss → AreApart (remove ss k)
apart_removed [] zero a = tt
apart_removed [] (suc k) a = tt
apart_removed (s ∷ ss) zero a = a.1
apart_removed (s ∷ ss) (suc k) a = (none_removed ss k s.handle a.0, apart_removed ss k a.1)

given_removed : (ss : List Seat) (k given : ℕ) → AreGiven given ss → AreGiven given (remove ss k)
given_removed [] zero given a = tt
given_removed [] (suc k) given a = tt
given_removed (s ∷ ss) zero given a = a.1
given_removed (s ∷ ss) (suc k) given a = (a.0, given_removed ss k given a.1)

-- the one that was removed is gone
gone : (ss : List Seat) (h k : ℕ) → AreApart ss → IsAt ss h k → bench_of (remove ss k) h ≡ None
gone [] h k a i = absurd i
gone (s ∷ ss) h zero a i = subst (λ (n : ℕ). bench_of ss n ≡ None) i a.0
gone (s ∷ ss) h (suc k) a i = skip s (remove ss k) h i.0 ∙ gone ss h k a.1 i.1

at_removed : (ss : List Seat) (h k o : ℕ) → IsAt ss h k → h ≢ o → bench_of (remove ss k) o ≡ bench_of ss o
at_removed [] h k o i n = absurd i
at_removed (s ∷ ss) h zero o i n = sym (skip s ss o (λ f. n (sym i ∙ f)))
at_removed (s ∷ ss) h (suc k) o i n = ap (λ (r : Option Seen). cond (eqb s.handle o) (Some s.bench) r) (at_removed ss h k o i.1 n)

-- ---- a bench is added

added : (ss : List Seat) (new : Seat) (o : ℕ) → new.handle ≢ o → bench_of (ss ++ new ∷ []) o ≡ bench_of ss o
added [] new o n = skip new [] o n
added (s ∷ ss) new o n = ap (λ (r : Option Seen). cond (eqb s.handle o) (Some s.bench) r) (added ss new o n)

above : (ss : List Seat) (given o : ℕ) → AreGiven given ss → given < o → bench_of ss o ≡ None
above [] given o a l = refl
above (s ∷ ss) given o a l = skip s ss o (λ e. omega (arith, e, a.0.1, l)) ∙ above ss given o a.1 l

apart_added : (ss : List Seat) (given : ℕ) (new : Seat) → AreGiven given ss → AreApart ss → given < new.handle → AreApart (ss ++ new ∷ [])
apart_added [] given new g a l = (refl, tt)
apart_added (s ∷ ss) given new g a l = (added ss new s.handle (λ e. omega (arith, e, g.0.1, l)) ∙ a.0, apart_added ss given new g.1 a.1 l)

given_added : (ss : List Seat) (given next : ℕ) (new : Seat) → AreGiven given ss → given < next → new.handle ≡ next → AreGiven next (ss ++ new ∷ [])
given_added [] given next new g l e = ((omega (arith, l, e), omega (arith, e)), tt)
given_added (s ∷ ss) given next new g l e = ((g.0.0, omega (arith, g.0.1, l)), given_added ss given next new g.1 l e)

-- ---- one call

same_orderly : (old new : Desk) → IsKept old new → IsOrderly old → IsOrderly new
same_orderly old new k o = record {
  given = subst (λ (g : ℕ). AreGiven g new.seats.items) (sym k.1) (subst (λ (ss : List Seat). AreGiven old.given ss) (sym k.0) o.given);
  apart = subst AreApart (sym k.0) o.apart;
}

-- a desk whose benches and last handle are those
orderly_of : (new : Desk) (ss : List Seat) (given : ℕ) → new.seats.items ≡ ss → new.given ≡ given → AreGiven given ss → AreApart ss → IsOrderly new
orderly_of new ss given e f g a = record {
  given = subst (λ (n : ℕ). AreGiven n new.seats.items) (sym f) (subst (λ (xs : List Seat). AreGiven given xs) (sym e) g);
  apart = subst AreApart (sym e) a;
}

open_orderly : (file : List ℕ) (options : Options) (old new : Desk) (status handle : ℕ) → Opens file options old new status handle → IsOrderly old → IsOrderly new
open_orderly file options old new status handle (inl done) o =
    let bench : Seen = done.1.1.1.0 in
    let next : handle ≡ old.given + 1 = done.1.0 in
    let above_all : old.given < handle = omega (arith, next) in
    orderly_of new (old.seats.items ++ seat handle bench ∷ []) handle done.1.1.1.1.1.0 done.1.1.0
    (given_added old.seats.items old.given handle (seat handle bench) o.given above_all refl) (apart_added old.seats.items old.given (seat handle bench) o.given o.apart above_all)
open_orderly file options old new status handle (inr refused) o = same_orderly old new refused.1.0 o

say_orderly : (at : Option ℕ) (handle : ℕ) (lines : List ℕ) (old new : Desk) (status : ℕ) → place_of old.seats.items handle ≡ at → SaysAt at lines old new status → IsOrderly old → IsOrderly new
say_orderly None handle lines old new status p s o = same_orderly old new s.1.1 o
say_orderly (Some at) handle lines old new status p s o =
    let had = s.0 in
    let i : IsAt old.seats.items handle at = place_some old.seats.items handle at p in
    let same : had.handle ≡ handle = (s.1.1.1 had).0 ∙ at_handle old.seats.items handle at had i in
    orderly_of new (set old.seats.items at had) old.given s.1.0 s.1.1.0 (given_set old.seats.items handle at old.given had i same o.given) (apart_set old.seats.items handle at had i same o.apart)

close_orderly : (at : Option ℕ) (handle : ℕ) (old new : Desk) (status : ℕ) → ClosesAt at old new status → IsOrderly old → IsOrderly new
close_orderly None handle old new status s o = same_orderly old new s.1.1 o
close_orderly (Some at) handle old new status s o =
    orderly_of new (remove old.seats.items at) old.given s.1.1.0 s.1.1.1 (given_removed old.seats.items at old.given o.given) (apart_removed old.seats.items at o.apart)

does_orderly : (call : Call) (old new : Desk) → IsOrderly old → Does call old new → IsOrderly new
does_orderly (Open file options) old new o d = open_orderly file options old new d.0 d.1.0 d.1.1 o
does_orderly (Say handle lines) old new o d = say_orderly (place_of old.seats.items handle) handle lines old new d.0 refl d.1 o
does_orderly (Close handle) old new o d = close_orderly (place_of old.seats.items handle) handle old new d.0 d.1 o
does_orderly Other old new o d = same_orderly old new d o

all_orderly : (calls : List Call) (old new : Desk) → IsOrderly old → DoesAll calls old new → IsOrderly new
all_orderly [] old new o d = same_orderly old new d o
all_orderly (call ∷ calls) old new o d = all_orderly calls d.0 new (does_orderly call old d.0 o d.1.0) d.1.1

pub orderly : DesksStayOrderly
orderly = record {
  empty = λ desk e. orderly_of desk [] 0 e.0 e.1 tt tt;
  kept = all_orderly;
}

-- ---- a handle that is closed

-- it was given, and no bench has it
abbrev IsOver : ℕ → Desk → Type 0
IsOver handle desk = (handle ≤ desk.given) × (bench_of desk.seats.items handle ≡ None)

over_kept : (handle : ℕ) (old new : Desk) → IsKept old new → IsOver handle old → IsOver handle new
over_kept handle old new k o = (subst (λ (g : ℕ). handle ≤ g) (sym k.1) o.0, subst (λ (ss : List Seat). bench_of ss handle ≡ None) (sym k.0) o.1)

over_of : (handle : ℕ) (old new : Desk) (ss : List Seat) → old.given ≤ new.given → new.seats.items ≡ ss → bench_of ss handle ≡ None → IsOver handle old → IsOver handle new
over_of handle old new ss l e none o = (omega (arith, l, o.0), subst (λ (xs : List Seat). bench_of xs handle ≡ None) (sym e) none)

open_over : (over : ℕ) (file : List ℕ) (options : Options) (old new : Desk) (status handle : ℕ) → Opens file options old new status handle → IsOver over old → IsOver over new
open_over over file options old new status handle (inl done) o =
    let bench : Seen = done.1.1.1.0 in
    let next : handle ≡ old.given + 1 = done.1.0 in
    let last : new.given ≡ handle = done.1.1.0 in
    over_of over old new (old.seats.items ++ seat handle bench ∷ []) (omega (arith, next, last)) done.1.1.1.1.1.0
    (added old.seats.items (seat handle bench) over (λ e. omega (arith, e, next, o.0)) ∙ o.1) o
open_over over file options old new status handle (inr refused) o = over_kept over old new refused.1.0 o

say_over : (over : ℕ) (at : Option ℕ) (handle : ℕ) (lines : List ℕ) (old new : Desk) (status : ℕ) → place_of old.seats.items handle ≡ at → SaysAt at lines old new status → IsOver over old
    → IsOver over new
say_over over None handle lines old new status p s o = over_kept over old new s.1.1 o
say_over over (Some at) handle lines old new status p s o =
    let had = s.0 in
    let i : IsAt old.seats.items handle at = place_some old.seats.items handle at p in
    let same : had.handle ≡ handle = (s.1.1.1 had).0 ∙ at_handle old.seats.items handle at had i in
    over_of over old new (set old.seats.items at had) (omega (arith, s.1.1.0)) s.1.0 (none_set old.seats.items handle at over had i same o.1) o

close_over : (over : ℕ) (at : Option ℕ) (old new : Desk) (status : ℕ) → ClosesAt at old new status → IsOver over old → IsOver over new
close_over over None old new status s o = over_kept over old new s.1.1 o
close_over over (Some at) old new status s o = over_of over old new (remove old.seats.items at) (omega (arith, s.1.1.1)) s.1.1.0 (none_removed old.seats.items at over o.1) o

does_over : (over : ℕ) (call : Call) (old new : Desk) → IsOver over old → Does call old new → IsOver over new
does_over over (Open file options) old new o d = open_over over file options old new d.0 d.1.0 d.1.1 o
does_over over (Say handle lines) old new o d = say_over over (place_of old.seats.items handle) handle lines old new d.0 refl d.1 o
does_over over (Close handle) old new o d = close_over over (place_of old.seats.items handle) old new d.0 d.1 o
does_over over Other old new o d = over_kept over old new d o

all_over : (over : ℕ) (calls : List Call) (old new : Desk) → IsOver over old → DoesAll calls old new → IsOver over new
all_over over [] old new o d = over_kept over old new d o
all_over over (call ∷ calls) old new o d = all_over over calls d.0 new (does_over over call old d.0 o d.1.0) d.1.1

closes_over : (at : Option ℕ) (handle : ℕ) (old new : Desk) → place_of old.seats.items handle ≡ at → ClosesAt at old new 0 → IsOrderly old → IsOver handle new
closes_over None handle old new p s o = absurd (omega (arith, s.0))
closes_over (Some at) handle old new p s o =
    let i : IsAt old.seats.items handle at = place_some old.seats.items handle at p in
    (omega (arith, at_given old.seats.items handle at old.given o.given i, s.1.1.1), subst (λ (ss : List Seat). bench_of ss handle ≡ None) (sym s.1.1.0) (gone old.seats.items handle at o.apart i))

says_refused : (handle : ℕ) (lines : List ℕ) (old new : Desk) (status : ℕ) → IsOver handle old → Says handle lines old new status → IsClosed old new status
says_refused handle lines old new status o s = subst (λ (at : Option ℕ). SaysAt at lines old new status) (place_none old.seats.items handle o.1) s

closes_refused : (handle : ℕ) (old new : Desk) (status : ℕ) → IsOver handle old → Closes handle old new status → IsClosed old new status
closes_refused handle old new status o s = subst (λ (at : Option ℕ). ClosesAt at old new status) (place_none old.seats.items handle o.1) s

pub closed : ClosedStayClosed
closed = record {
  say = λ handle calls old over new last lines status o c d s. says_refused handle lines new last status
      (all_over handle calls over new (closes_over (place_of old.seats.items handle) handle old over refl c o) d) s;
  close = λ handle calls old over new last status o c d s. closes_refused handle new last status
      (all_over handle calls over new (closes_over (place_of old.seats.items handle) handle old over refl c o) d) s;
}

-- ---- the other benches

abbrev IsSame : ℕ → Desk → Desk → Type 0
IsSame other old new = bench_of new.seats.items other ≡ bench_of old.seats.items other

same_of : (other : ℕ) (old new : Desk) (ss : List Seat) → new.seats.items ≡ ss → bench_of ss other ≡ bench_of old.seats.items other → IsSame other old new
same_of other old new ss e f = ap (λ (xs : List Seat). bench_of xs other) e ∙ f

open_same : (other : ℕ) (file : List ℕ) (options : Options) (old new : Desk) (status handle : ℕ) → other ≤ old.given → Opens file options old new status handle → IsSame other old new
open_same other file options old new status handle l (inl done) =
    let next : handle ≡ old.given + 1 = done.1.0 in
    same_of other old new (old.seats.items ++ seat handle done.1.1.1.0 ∷ []) done.1.1.1.1.1.0 (added old.seats.items (seat handle done.1.1.1.0) other (λ e. omega (arith, e, next, l)))
open_same other file options old new status handle l (inr refused) = same_of other old new old.seats.items refused.1.0.0 refl

say_same : (other : ℕ) (at : Option ℕ) (handle : ℕ) (lines : List ℕ) (old new : Desk) (status : ℕ) → place_of old.seats.items handle ≡ at → handle ≢ other → SaysAt at lines old new status
    → IsSame other old new
say_same other None handle lines old new status p n s = same_of other old new old.seats.items s.1.1.0 refl
say_same other (Some at) handle lines old new status p n s =
    let had = s.0 in
    let i : IsAt old.seats.items handle at = place_some old.seats.items handle at p in
    let same : had.handle ≡ handle = (s.1.1.1 had).0 ∙ at_handle old.seats.items handle at had i in
    same_of other old new (set old.seats.items at had) s.1.0 (at_set old.seats.items handle at other had i same n)

close_same : (other : ℕ) (at : Option ℕ) (handle : ℕ) (old new : Desk) (status : ℕ) → place_of old.seats.items handle ≡ at → handle ≢ other → ClosesAt at old new status → IsSame other old new
close_same other None handle old new status p n s = same_of other old new old.seats.items s.1.1.0 refl
close_same other (Some at) handle old new status p n s =
    same_of other old new (remove old.seats.items at) s.1.1.0 (at_removed old.seats.items handle at other (place_some old.seats.items handle at p) n)

pub others : OthersStay
others (Open file options) old new other l n d = open_same other file options old new d.0 d.1.0 l d.1.1
others (Say handle lines) old new other l n d = say_same other (place_of old.seats.items handle) handle lines old new d.0 refl n d.1
others (Close handle) old new other l n d = close_same other (place_of old.seats.items handle) handle old new d.0 refl n d.1
others Other old new other l n d = same_of other old new old.seats.items d.0 refl
