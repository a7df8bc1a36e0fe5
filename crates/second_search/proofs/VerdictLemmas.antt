-- What is kept of the parts: at the start, after a search, and the verdict that follows from it; and going along them, with counts.
use Rattle.std.proofs.Common.{◌≡◌, ℕ, zero, suc, ◌+◌, ◌-◌, ◌<◌, ◌≤◌, max, Bool, Option, List, [], ◌∷◌, ◌++◌, length, refl, sym, ap, subst, ◌∙◌, arith, inl, inr, ◌^◌, None, Some, get_or}
use Rattle.std.proofs.lemmas.Bool.{cases_lt}
use Rattle.std.proofs.lemmas.List.{get_or_append_left, get_or_past, get_or_push, length-map, length_push, get_or_default}
use Rattle.line_facts.specs.Masks.{Masks}
use Rattle.picture.specs.Rows.{Rows}
use Rattle.clues.specs.ClueBook.{Clues}
use Rattle.second_search.specs.declared.keeper.Answer.{Answer}
use Rattle.second_search.specs.declared.keeper.Answer.TheVariants.{Filling, Unknown, Nothing}
use Rattle.second_search.specs.declared.keeper.KeptPart.{KeptPart}
use Rattle.second_search.specs.declared.counting.Ending.{Ending}
use Rattle.second_search.specs.declared.counting.Ending.TheVariants as ending
use Rattle.second_search.specs.Verdict.{Verdict, Other, Undecided, Unique}
use Rattle.second_search.specs.Parts.{AreParts, IsPart, part_at, board}
use Rattle.second_search.specs.JudgedParts.{Changes, FirstFilling, HasFilling, HasNoFilling, IsFilling, IsPlace, IsToldBy, IsTrueOf, Judges, Notes, Starts, StartsWith, Stops, answer_at, cells_at}
use Rattle.second_search.specs.JudgedParts.{kept_at, parts_of, AddsUp, Done, DoneBy, EndsBy, EndsPart, Passes, StopsAt}
use Rattle.second_search.proofs.LookLemmas.{below_next}
use Rattle.line_facts.specs.declared.meter.Meter.{Meter}
use Rattle.line_facts.specs.Counts.{Counts, counted}
use Rattle.second_search.specs.declared.keeper.Spent.{Spent}
use Rattle.second_search.specs.FixedOrder.{EndsWithin, IsCalled, alone, raised}
use Rattle.second_search.specs.Laws.{AllowancesBreakOff}

-- ---- the parts that are kept

pub part_of_kept : (kept : List KeptPart) (i : ℕ) → part_at (parts_of kept) i ≡ cells_at kept i
part_of_kept [] i = refl
part_of_kept (part ∷ kept) zero = refl
part_of_kept (part ∷ kept) (suc i) = part_of_kept kept i

pub each_is_part : (facts : Masks) (kept : List KeptPart) → AreParts facts (parts_of kept) → (i : ℕ) → i < length kept → IsPart facts (cells_at kept i)
each_is_part facts kept are i l =
    let count = length-map kept (λ (part : KeptPart). part.cells) in
    subst (IsPart facts) (part_of_kept kept i) (are.each i (omega arith))

pub same_parts : (kept : List KeptPart) (parts : List (List ℕ)) → length kept ≡ length parts → ((i : ℕ) → i < length parts → cells_at kept i ≡ part_at parts i) → parts_of kept ≡ parts
same_parts [] [] e h = refl
same_parts [] (part ∷ parts) e h = absurd (omega (arith, e))
same_parts (first ∷ kept) [] e h = absurd (omega (arith, e))
same_parts (first ∷ kept) (part ∷ parts) e h =
    let here : first.cells ≡ part = h 0 (omega arith) in
    let others = same_parts kept parts (omega (arith, e)) (λ i l. h (suc i) (omega arith)) in
    ap (λ (x : List ℕ). x ∷ parts_of kept) here ∙ ap (λ (xs : List (List ℕ)). part ∷ xs) others

pub kept_cells : (old new : List KeptPart) → length new ≡ length old → ((i : ℕ) → cells_at new i ≡ cells_at old i) → parts_of new ≡ parts_of old
kept_cells old new e h =
    let count = length-map old (λ (part : KeptPart). part.cells) in
    same_parts new (parts_of old) (omega arith) (λ i l. h i ∙ sym (part_of_kept old i))

-- ---- from the start

pub starts_none : (parts : List (List ℕ)) (kept : List KeptPart) → kept ≡ [] → StartsWith parts kept 0
starts_none parts kept e = record { count_is = ap length e; cells = λ i l. absurd (omega arith); unknown = λ i l. absurd (omega arith) }

abbrev pub no_part : KeptPart
no_part = record { cells = []; answer = Unknown }

-- what holds of the parts that are kept and of one more holds of all
pub each_more : (Q : ℕ → KeptPart → Type 0) (kept : List KeptPart) (part : KeptPart) (count : ℕ) → length kept ≡ count → ((i : ℕ) → i < count → Q i (kept_at kept i)) → Q count part → (i : ℕ)
    → i < count + 1 → Q i (kept_at (kept ++ part ∷ []) i)
each_more Q kept part count n before here = below_next (λ i. Q i (kept_at (kept ++ part ∷ []) i)) count
    (λ i l. subst (Q i) (sym (get_or_append_left kept (part ∷ []) no_part i (omega arith))) (before i l))
    (subst (Q count) (sym (get_or_push kept part no_part count n)) here)

pub starts_more : (parts : List (List ℕ)) (kept more : List KeptPart) (part : KeptPart) (count : ℕ) → StartsWith parts kept count → more ≡ kept ++ (part ∷ []) → part.cells ≡ part_at parts count
    → part.answer ≡ Unknown → StartsWith parts more (count + 1)
starts_more parts kept more part count s e same gone =
    let n = s.count_is in
    subst (λ (xs : List KeptPart). StartsWith parts xs (count + 1)) (sym e) (record {
      count_is = (let m = length_push kept part in omega arith);
      cells = each_more (λ i x. x.cells ≡ part_at parts i) kept part count n s.cells same;
      unknown = each_more (λ i x. x.answer ≡ Unknown) kept part count n s.unknown gone;
    })

pub all_started : (facts : Masks) (parts : List (List ℕ)) (kept : List KeptPart) (count : ℕ) → AreParts facts parts → StartsWith parts kept count → count ≡ length parts → Starts facts kept
all_started facts parts kept count are s e =
    let unknown : (i : ℕ) → answer_at kept i ≡ Unknown = λ i. elim (cases_lt i count) [
      | inl l ↦ s.unknown i l
      | inr p ↦ ap (λ (x : KeptPart). x.answer) (get_or_past kept i no_part (omega arith))
    ] in
    record {
      parts = subst (AreParts facts) (sym (same_parts kept parts (omega arith) (λ i l. s.cells i (omega arith)))) are;
      unknown = unknown;
      true_answers = λ clues givens picture i l.
          subst (λ (a : Answer). IsTrueOf clues givens picture (cells_at kept i) a) (sym (unknown i)) tt;
    }

-- ---- what is noted

answered : (kept : List KeptPart) (i : ℕ) (other : Rows) → i < length kept → answer_at kept i ≡ Filling other → HasFilling kept i
answered kept i other l e = record { place = l; is = subst IsFilling (sym e) tt }

-- the verdict that follows from how going along the parts ended
abbrev pub verdict_of : Ending → Verdict
verdict_of ending.Nothing = Unique
verdict_of (ending.Found other) = Other
verdict_of ending.BrokenOff = Undecided

none_after : (old new : List KeptPart) (end : ℕ) → HasNoFilling old (length old) → Changes old new end → HasNoFilling new (length new)
none_after old new end none c i l f = elim (cases_lt i end) [
  | inl m ↦ subst IsFilling (c.before i m) f
  | inr p ↦
      let count = c.count in
      none i (omega arith) (subst (λ (part : KeptPart). IsFilling part.answer) (c.behind i p) f)
]

pub told_by : (old new : List KeptPart) (i : ℕ) (found : Ending) (is_decided : Bool) → HasNoFilling old (length old) → IsPlace old i found → Notes old new i found is_decided
    → IsToldBy is_decided new (verdict_of found)
told_by old new i ending.Nothing is_decided none l noted = (noted.0, none_after old new i none noted.1)
told_by old new i (ending.Found other) is_decided none l noted =
    let count = noted.1.count in
    (noted.0, (i, answered new i other (omega arith) noted.1.here))
told_by old new i ending.BrokenOff is_decided none l noted = (noted.0, none_after old new i none noted.1)

pub one_kept : (kept : List KeptPart) (other : Rows) → FirstFilling kept other → (i : ℕ) × HasFilling kept i
one_kept kept other f = (f.at, answered kept f.at other f.place f.is)

module _ (clues : Clues) (facts : Masks) (picture : Rows) (allowance : Option ℕ) where
  pub stops_place : (kept : List KeptPart) (i : ℕ) (found : Ending) (m n : ℕ) → Stops (board clues facts picture) allowance kept i found m n → IsPlace kept i found
  stops_place kept i ending.Nothing m n s = let e = s.0 in omega arith
  stops_place kept i (ending.Found other) m n s = s.place
  stops_place kept i ending.BrokenOff m n s = let l = s.place in omega arith

  pub judges_as : (old new : List KeptPart) (i : ℕ) (found : Ending) (is_decided : Bool) (m n : ℕ) → HasNoFilling old (length old) → Stops (board clues facts picture) allowance old i found m n
      → Notes old new i found is_decided → Judges (board clues facts picture) allowance old new (verdict_of found) m n
  judges_as old new i ending.Nothing is_decided m n none s noted =
      record { none_kept = none; passes = s.1; noted = subst (Changes old new) s.0 noted.1 }
  judges_as old new i (ending.Found other) is_decided m n none s noted =
      inr (record { none_kept = none; at = i; other = other; stops = s; noted = noted.1 })
  judges_as old new i ending.BrokenOff is_decided m n none s noted =
      record { none_kept = none; at = i; stops = s; noted = noted.1 }

  -- what is kept already
  pub keeps_other : (kept : List KeptPart) (other : Rows) → FirstFilling kept other → Judges (board clues facts picture) allowance kept kept Other 0 0
  keeps_other kept other f = inl (record { at = f.at; is = answered kept f.at other f.place f.is; same = refl; searched_none = refl; splits_none = refl })

pub same_kept : (clues : Clues) (facts : Masks) (picture : Rows) (allowance : Option ℕ) (old new : List KeptPart) (verdict : Verdict) (m n : ℕ)
    → Judges (board clues facts picture) allowance old new verdict m n → parts_of new ≡ parts_of old
same_kept clues facts picture allowance old new Unique m n j = kept_cells old new j.noted.count j.noted.cells
same_kept clues facts picture allowance old new Other m n (inl j) = ap parts_of j.same
same_kept clues facts picture allowance old new Other m n (inr j) = kept_cells old new j.noted.count j.noted.cells
same_kept clues facts picture allowance old new Undecided m n j = kept_cells old new j.noted.count j.noted.cells

-- ---- going along the parts, with the counts of what is done

pub done_none : (calls : ℕ) (Is : ℕ → ℕ → Type 0) → calls < 2 ^ 64 → Is 0 0 → DoneBy (record { searched = 0; splits = 0; evaluations = 0 }) calls calls Is
done_none calls Is l is = record {
  searched = 0;
  splits = 0;
  evaluations = 0;
  is = is;
  searched_is = omega arith;
  splits_is = omega arith;
  counts = record { evaluations = omega arith; trials = omega arith; calls = omega arith };
  none = λ z. refl;
  at_least = omega arith;
}

pub done_as : (spent : Spent) (p q : ℕ) (One Is : ℕ → ℕ → Type 0) → DoneBy spent p q One → ((m n : ℕ) → One m n → Is m n) → DoneBy spent p q Is
done_as spent p q One Is d turn = record {
  searched = d.searched;
  splits = d.splits;
  evaluations = d.evaluations;
  is = turn d.searched d.splits d.is;
  searched_is = d.searched_is;
  splits_is = d.splits_is;
  counts = d.counts;
  none = d.none;
  at_least = d.at_least;
}

-- what is done first and what is done then, counted together
pub done_then : (before here after : Spent) (p q r : ℕ) (One Two Is : ℕ → ℕ → Type 0) → DoneBy before p q One → DoneBy here q r Two → AddsUp before here after
    → ((m n x y : ℕ) → One m n → Two x y → Is (m + x) (n + y)) → DoneBy after p r Is
done_then before here after p q r One Two Is d f up join =
    let a = d.counts in
    let b = f.counts in
    record {
      searched = d.searched + f.searched;
      splits = d.splits + f.splits;
      evaluations = d.evaluations + f.evaluations;
      is = join d.searched d.splits f.searched f.splits d.is f.is;
      searched_is = (let x = d.searched_is in let y = f.searched_is in let z = up.searched in omega arith);
      splits_is = (let x = d.splits_is in let y = f.splits_is in let z = up.splits in omega arith);
      counts = record {
        evaluations = (let x = a.evaluations in let y = b.evaluations in let z = up.evaluations in omega arith);
        trials = omega arith;
        calls = (let x = a.calls in let y = b.calls in omega arith);
      };
      none = λ z. (let one = d.none (omega arith) in let other = f.none (omega arith) in omega arith);
      at_least = (let one = d.at_least in let other = f.at_least in omega arith);
    }

-- what was done is added to counts from before
pub done_added : (s t a b : ℕ) (spent : Spent) (start end : Meter) (p q : ℕ) (Is : ℕ → ℕ → Type 0) → DoneBy spent p q Is → t ≡ raised s spent.searched → b ≡ raised a spent.splits
    → end.evaluations ≡ counted start.evaluations spent.evaluations → end.trials ≡ counted start.trials 0 → Done s t a b start end p q Is
done_added s t a b spent start end p q Is d x y z w = record {
  searched = d.searched;
  splits = d.splits;
  evaluations = d.evaluations;
  is = d.is;
  searched_is = (let e = d.searched_is in omega arith);
  splits_is = (let e = d.splits_is in omega arith);
  counts = record { evaluations = (let e = d.counts.evaluations in omega arith); trials = w; calls = d.counts.calls };
  none = d.none;
  at_least = d.at_least;
}

-- the evaluations that were counted for it are added to a meter
pub spent_added : (spent : Spent) (start end : Meter) (p q : ℕ) (Is : ℕ → ℕ → Type 0) → DoneBy spent p q Is → end.evaluations ≡ counted start.evaluations spent.evaluations
    → end.trials ≡ counted start.trials 0 → Counts spent.evaluations 0 start end p q
spent_added spent start end p q Is d e t =
    let n = d.counts.evaluations in
    let calls = d.counts.calls in
    record { evaluations = e; trials = t; calls = omega arith }

module _ (clues : Clues) (facts : Masks) (picture : Rows) (allowance : Option ℕ) (kept : List KeptPart) where
  pub passes_more : (i : ℕ) (m n x y : ℕ) → Passes (board clues facts picture) allowance kept i m n → EndsPart (board clues facts picture) allowance (kept_at kept i) ending.Nothing x y
      → Passes (board clues facts picture) allowance kept (suc i) (m + x) (n + y)
  passes_more i m n x y p e = (m, (n, (x, (y, (p, (e, (refl, refl)))))))

  pub stops_here : (i : ℕ) (found : Ending) (m n x y : ℕ) → i < length kept → Passes (board clues facts picture) allowance kept i m n
      → EndsPart (board clues facts picture) allowance (kept_at kept i) found x y → StopsAt (board clues facts picture) allowance kept i found (m + x) (n + y)
  stops_here i found m n x y l p e = record { place = l; searched_before = m; splits_before = n; searched_here = x; splits_here = y; before = p; here = e; searched_is = refl; splits_is = refl }

-- where going along stopped before the end
pub stops_found : (clues : Clues) (facts : Masks) (picture : Rows) (allowance : Option ℕ) (kept : List KeptPart) (i : ℕ) (found : Ending) (m n : ℕ) → (found ≡ ending.Nothing → ⊥)
    → StopsAt (board clues facts picture) allowance kept i found m n → Stops (board clues facts picture) allowance kept i found m n
stops_found clues facts picture allowance kept i ending.Nothing m n d s = absurd (d refl)
stops_found clues facts picture allowance kept i (ending.Found other) m n d s = s
stops_found clues facts picture allowance kept i ending.BrokenOff m n d s = s

-- ---- a part at its place

pub part_is : (items kept : List KeptPart) (i : ℕ) (part : KeptPart) → items ≡ kept → i < length kept → part ≡ get_or items i part → part ≡ kept_at kept i
part_is items kept i part e l p = p ∙ (ap (λ (xs : List KeptPart). get_or xs i part) e ∙ get_or_default kept i part no_part l)

pub answer_is : (items kept : List KeptPart) (i : ℕ) (part : KeptPart) → items ≡ kept → i < length kept → part ≡ get_or items i part → answer_at kept i ≡ part.answer
answer_is items kept i part e l p = ap (λ (x : KeptPart). x.answer) (sym (part_is items kept i part e l p))

-- a part of which something is known is passed
pub known_before : (clues : Clues) (facts : Masks) (picture : Rows) (allowance : Option ℕ) (kept : List KeptPart) (i : ℕ) (part : KeptPart) → part ≡ kept_at kept i → (part.answer ≡ Unknown → ⊥)
    → EndsPart (board clues facts picture) allowance (kept_at kept i) ending.Nothing 0 0
known_before clues facts picture allowance kept i part e d = rw e at (by part.answer d)
  where
    by : (answer : Answer) → (answer ≡ Unknown → ⊥) → EndsBy (board clues facts picture) allowance part.cells answer ending.Nothing 0 0
    by Unknown d = absurd (d refl)
    by Nothing d = (refl, (refl, refl))
    by (Filling other) d = (refl, (refl, refl))

-- a part of which nothing was known was searched, which took at least one evaluation
pub searched_once : (clues : Clues) (facts : Masks) (picture : Rows) (allowance : Option ℕ) (kept : List KeptPart) (i : ℕ) (part : KeptPart) (found : Ending) (splits p q e : ℕ) → part ≡ kept_at kept i
    → part.answer ≡ Unknown → (n : ℕ) × ((splits ≡ raised 0 n) × EndsWithin clues picture (alone part.cells facts picture) allowance found n) → p ≤ q → IsCalled p q → q < 2 ^ 64 → e ≡ max (q - p) 1
    → DoneBy (record { searched = 1; splits = splits; evaluations = e }) p q (EndsPart (board clues facts picture) allowance (kept_at kept i) found)
searched_once clues facts picture allowance kept i part found splits p q e here unknown ends l called fits is =
    let P : KeptPart → Type 0 = λ x. EndsPart (board clues facts picture) allowance x found 1 ends.0 in
    record {
      searched = 1;
      splits = ends.0;
      evaluations = e;
      is = subst P here (rw unknown (refl, ends.1.1));
      searched_is = refl;
      splits_is = ends.1.0;
      counts = record {
        evaluations = omega arith;
        trials = omega arith;
        calls = omega arith;
      };
      none = λ z. absurd (omega arith);
      at_least = omega arith;
    }

-- ---- where an allowance is set

stopped : (clues : Clues) (facts : Masks) (picture : Rows) (allowance : Option ℕ) (cells : List ℕ) (answer : Answer) (searched splits : ℕ)
    → EndsBy (board clues facts picture) allowance cells answer ending.BrokenOff searched splits → (most : ℕ) × (allowance ≡ Some most)
stopped clues facts picture (Some most) cells Unknown searched splits h = (most, refl)
stopped clues facts picture None cells Unknown searched splits h = elim h.1 [
  | inl e ↦ absurd (e.1 refl)
  | inr e ↦ absurd e.1
]
stopped clues facts picture allowance cells Nothing searched splits h = let e = h.0 in absurd cc
stopped clues facts picture allowance cells (Filling other) searched splits h = let e = h.0 in absurd cc

pub break_off : AllowancesBreakOff
break_off clues facts picture allowance old new searched splits b =
    let part = kept_at old b.at in
    stopped clues facts picture allowance part.cells part.answer _ _ b.stops.here
