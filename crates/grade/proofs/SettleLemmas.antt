-- Where runs end: at the least closed facts.
use Rattle.std.proofs.Common.{◌≡◌, ℕ, zero, suc, ◌+◌, ◌-◌, ◌/◌, ◌<◌, ◌≤◌, ◌⊎◌, List, [], ◌∷◌, length, get_or, refl, sym, ap, subst, ◌∙◌, arith, inl, inr}
use Rattle.std.specs.Prelude.{IsBitSet, count_ones}
use Rattle.std.specs.Int.{bit_at}
use Rattle.std.specs.Int.Count.{ones_step}
use Rattle.std.proofs.lemmas.Bool.{cases_eq, cases_lt}
use Rattle.std.proofs.lemmas.List.{get_or_past}
use Rattle.std.proofs.lemmas.Nat.{ones_le_self, zero_from_ones}
use Rattle.std.proofs.lemmas.Nat.Bits.{bit_at-suc, bit_at_lowest, bit_at-zero}
use Rattle.line_facts.specs.Masks.{Masks}
use Rattle.picture.specs.declared.line_id.LineId.{LineId}
use Rattle.picture.specs.Rows.{cell_at, line_of, row_at, width_of, HasLine, Rows}
use Rattle.clues.specs.ClueBook.{Clues, clue_at}
use Rattle.line_facts.specs.declared.line_engine.Outcome.{Outcome}
use Rattle.line_facts.specs.FactSets.{Gains, IsClosed, IsClosedLine, IsLeast, IsWithin, Leaves, SameShape, col_on, row_on}
use Rattle.fixpoint.specs.Fillings.{Fills, LeavesPicture, only}
use Rattle.grade.specs.declared.turn.Turn.{Turn}
use Rattle.grade.specs.Laws.{RunsAreOne, RunsSettle}
use Rattle.grade.specs.Looks.{HasOpenCell, IsDue, Look}
use Rattle.grade.specs.Runs.{IsAfter, IsLookedAt, IsQuiet, IsRun, LooksAt, Stage, TakesTurn, look_in, next_turn, stage}
use Rattle.picture.proofs.BitLaws.{no_bit, set_bit}
use Rattle.picture.proofs.LineSetLaws.{cases_name}
use Rattle.line_facts.proofs.FitLaws.{tighter_have, within_both, within_tighter}
use Rattle.line_facts.proofs.ForceLaws.{gains_closes, gains_grows, gains_inside}
use Rattle.line_facts.proofs.GridLaws.{cell_on, same_has_line, shape_refl, shape_sym, shape_trans}
use Rattle.fixpoint.proofs.ClosingLaws.{within_refl, within_trans}
use Rattle.fixpoint.proofs.PictureLemmas.{only_is_closed}
use Rattle.grade.proofs.RunLemmas.{pass_by}
use Rattle.grade.proofs.TurnLemmas.{next_there}

-- ---- what can be decided

pub cases_list : (a b : List ℕ) → (a ≡ b) ⊎ (a ≡ b → ⊥)
cases_list [] [] = inl refl
cases_list [] (y ∷ b) = inr (λ e. cc)
cases_list (x ∷ a) [] = inr (λ e. cc)
cases_list (x ∷ a) (y ∷ b) = elim (cases_eq x y) [
  | inl e ↦ elim (cases_list a b) [ inl f ↦ inl (cc) | inr n ↦ inr (λ f. n (cc)) ]
  | inr n ↦ inr (λ f. n (cc))
]

pub due_or_not : (looks : List Look) (line : LineId) → IsDue looks line ⊎ (IsDue looks line → ⊥)
due_or_not [] line = inl tt
due_or_not (look ∷ earlier) line = elim (cases_name look.line line) [
  | inl e ↦ inr (λ d. d.0 e)
  | inr apart ↦ elim (cases_list (line_of look.before line) (line_of look.after line)) [
    | inr changed ↦ inl (apart, inl changed)
    | inl same ↦ elim (due_or_not earlier line) [
      | inl due ↦ inl (apart, inr due)
      | inr none ↦ inr (λ d. elim d.1 [ inl changed ↦ changed same | inr due ↦ none due ])
    ]
  ]
]

open_below : (cells : List ℕ) (n : ℕ) → ((i : ℕ) × (1 < count_ones (get_or cells i 0))) ⊎ ((i : ℕ) → i < n → count_ones (get_or cells i 0) ≤ 1)
open_below cells zero = inr (λ i l. absurd (omega arith))
open_below cells (suc n) = elim (open_below cells n) [
  | inl is ↦ inl is
  | inr none ↦ elim (cases_lt 1 (count_ones (get_or cells n 0))) [
    | inl is ↦ inl (n, is)
    | inr few ↦ inr (λ i l. elim (cases_eq i n) [
      | inl e ↦ let P : ℕ → Type 0 = λ k. count_ones (get_or cells k 0) ≤ 1 in subst P (sym e) few
      | inr other ↦ none i (omega arith)
    ])
  ]
]

-- a line has an open cell, or none of its cells has more than one colour
open_or_single : (facts : Masks) (line : LineId) → HasOpenCell facts line ⊎ ((i : ℕ) → i < length (line_of facts line) → count_ones (get_or (line_of facts line) i 0) ≤ 1)
open_or_single facts line = open_below (line_of facts line) (length (line_of facts line))

open_or_not : (facts : Masks) (line : LineId) → HasOpenCell facts line ⊎ (HasOpenCell facts line → ⊥)
open_or_not facts line = elim (open_or_single facts line) [
  | inl is ↦ inl is
  | inr single ↦ inr (λ o. elim (cases_lt o.0 (length (line_of facts line))) [
    | inl l ↦ (let few = single o.0 l in let many = o.1 in absurd (omega arith))
    | inr past ↦
        let none = ap count_ones (get_or_past (line_of facts line) o.0 0 past) in
        let many = o.1 in
        absurd (omega (arith, none, many, ones_le_self 0))
  ])
]

pub looked_or_not : (facts : Masks) (looks : List Look) (line : LineId) → IsLookedAt facts looks line ⊎ (IsLookedAt facts looks line → ⊥)
looked_or_not facts looks line = elim (due_or_not looks line) [
  | inr none ↦ inr (λ l. none l.0)
  | inl due ↦ elim (open_or_not facts line) [ inl o ↦ inl (due, o) | inr closed ↦ inr (λ l. closed l.1) ]
]

-- ---- a cell with one colour

some_ones : (mask k : ℕ) → bit_at mask k ≡ 1 → 0 < count_ones mask
some_ones mask k one = elim (cases_eq (count_ones mask) 0) [
  | inl none ↦ (let e = ap (λ n. bit_at n k) (zero_from_ones mask none) in let z = bit_at-zero k in absurd (omega arith))
  | inr some ↦ omega arith
]

two_ones : (j mask k : ℕ) → bit_at mask j ≡ 1 → bit_at mask k ≡ 1 → j < k → 1 < count_ones mask
two_ones zero mask zero a b l = absurd (omega arith)
two_ones zero mask (suc k) a b l = let more = some_ones (mask / 2) k (sym (bit_at-suc mask k) ∙ b) in omega (arith, ones_step mask, bit_at_lowest mask, more, a)
two_ones (suc j) mask zero a b l = absurd (omega arith)
two_ones (suc j) mask (suc k) a b l = let more = two_ones j (mask / 2) k (sym (bit_at-suc mask j) ∙ a) (sym (bit_at-suc mask k) ∙ b) (omega arith) in omega (arith, ones_step mask, more)

-- two colours of a mask that has at most one are the same
one_colour : (mask j k : ℕ) → count_ones mask ≤ 1 → IsBitSet mask j → IsBitSet mask k → k ≡ j
one_colour mask j k few a b = elim (cases_lt j k) [
  | inl l ↦ let two = two_ones j mask k (set_bit mask j a) (set_bit mask k b) l in absurd (omega arith)
  | inr m ↦ elim (cases_lt k j) [
    | inl l ↦ let two = two_ones k mask j (set_bit mask k b) (set_bit mask j a) l in absurd (omega arith)
    | inr n ↦ omega arith
  ]
]

module _ (clues : Clues) (facts : Masks) (picture : Rows) (shape : SameShape picture facts) (leaves : LeavesPicture picture facts) (closed : IsClosed clues (only picture)) where
  within : IsWithin facts (only picture)
  within = (only_is_closed.within picture facts shape).0 leaves

  -- a colour that is left where only one can be is the picture's
  left_is_own : (row col k : ℕ) → count_ones (cell_at facts row col) ≤ 1 → Leaves facts row col k → Leaves (only picture) row col k
  left_is_own row col k few is =
      let inside : col < length (row_at picture row) = elim (cases_lt col (length (row_at facts row))) [
        | inl l ↦ (let e = shape.each row in omega arith)
        | inr past ↦ absurd (no_bit k (let P : ℕ → Type 0 = λ m. IsBitSet m k in subst P (get_or_past (row_at facts row) col 0 past) is))
      ] in
      (only_is_closed.leaves picture row col k).1 (inside, one_colour (cell_at facts row col) (cell_at picture row col) k few (leaves row col inside) is)

  -- a line without an open cell forces nothing
  pub single_is_closed : (line : LineId) → HasLine facts line → ((i : ℕ) → i < length (line_of facts line) → count_ones (get_or (line_of facts line) i 0) ≤ 1)
      → IsClosedLine (clue_at clues line) (line_of facts line)
  single_is_closed line has single i k is =
      let place : i < length (line_of facts line) = elim (cases_lt i (length (line_of facts line))) [
        | inl l ↦ l
        | inr past ↦ absurd (no_bit k (let P : ℕ → Type 0 = λ m. IsBitSet m k in subst P (get_or_past (line_of facts line) i 0 past) is))
      ] in
      let row = row_on line.axis line.at i in
      let col = col_on line.axis line.at i in
      let P : ℕ → Type 0 = λ m. IsBitSet m k in
      let few : count_ones (cell_at facts row col) ≤ 1 = (let e = ap count_ones (cell_on facts line i) in let s = single i place in omega arith) in
      let own = left_is_own row col k few (subst P (cell_on facts line i) is) in
      let there : HasLine (only picture) line = same_has_line facts (only picture) line within.same_shape has in
      let can = closed line there i k (subst P (sym (cell_on (only picture) line i)) own) in
      tighter_have (clue_at clues line) (line_of facts line) (line_of (only picture) line) (within_tighter facts (only picture) within line) i k can

-- ---- runs

-- the facts so far lie between those at the start and all closed facts that hold these, and each line that is not due is closed
record Settling (clues : Clues) (start facts : Masks) (looks : List Look) : Type 0 where
  holds : IsWithin start facts
  inside : (others : Masks) → IsClosed clues others → IsWithin start others → IsWithin facts others
  quiet : (line : LineId) → HasLine facts line → (IsDue looks line → ⊥) → IsClosedLine (clue_at clues line) (line_of facts line)

abbrev settling_stage : Clues → Masks → Stage → Type 0
settling_stage clues start s = Settling clues start s.facts s.looks

passed : (clues : Clues) (start facts new : Masks) (looks after : List Look) → new ≡ facts → after ≡ looks → Settling clues start facts looks → Settling clues start new after
passed clues start facts new looks after f l s =
    let P : List (List ℕ) → Type 0 = λ m. Settling clues start m after in
    let Q : List Look → Type 0 = λ ls. Settling clues start facts ls in
    subst P (sym f) (subst Q (sym l) s)

module _ (clues : Clues) (start old new : Masks) (looks : List Look) (turn : Turn) (outcome : Outcome) (has : HasLine old turn.line) (g : Gains (clue_at clues turn.line) turn.line old new outcome)
    (s : Settling clues start old looks) where
  -- the lines that are not due after a look: the line itself, and those that were not due and are as they were
  quiet_after : (line : LineId) → HasLine new line → (IsDue (look_in turn old new ∷ looks) line → ⊥) → IsClosedLine (clue_at clues line) (line_of new line)
  quiet_after line there none = elim (cases_name turn.line line) [
    | inl e ↦ let P : LineId → Type 0 = λ l. IsClosedLine (clue_at clues l) (line_of new l) in subst P e (gains_closes (clue_at clues turn.line) turn.line old new outcome g)
    | inr apart ↦ elim (cases_list (line_of old line) (line_of new line)) [
      | inr changed ↦ absurd (none (apart, inl changed))
      | inl same ↦
          let before = s.quiet line (same_has_line new old line (shape_sym g.same_shape) there) (λ due. none (apart, inr due)) in
          let P : List ℕ → Type 0 = λ cells. IsClosedLine (clue_at clues line) cells in
          subst P same before
    ]
  ]

  looked_at : Settling clues start new (look_in turn old new ∷ looks)
  looked_at = record {
    holds = within_trans start old new s.holds (gains_grows (clue_at clues turn.line) turn.line old new outcome g);
    inside = λ others closed w.
        let inside = s.inside others closed w in
        gains_inside (clue_at clues turn.line) turn.line old new outcome g others inside (closed turn.line (same_has_line old others turn.line inside.same_shape has));
    quiet = quiet_after;
  }

settles_turn : (clues : Clues) (start : Masks) (old new : Stage) → HasLine old.facts old.turn.line → TakesTurn clues old new → settling_stage clues start old → settling_stage clues start new
settles_turn clues start old new has t s = elim (looked_or_not old.facts old.looks old.turn.line) [
  | inr none ↦ (let p = t.passes none in passed clues start old.facts new.facts old.looks new.looks p.same_facts p.same_looks s)
  | inl looked ↦ (
      let l = t.looks looked in
      let P : List Look → Type 0 = λ looks. Settling clues start new.facts looks in
      subst P (sym l.noted) (looked_at clues start old.facts new.facts old.looks old.turn l.outcome has l.gains s))
]

-- a look keeps the shape, and so does a turn that passes by
same_shape : (clues : Clues) (old new : Stage) → TakesTurn clues old new → SameShape old.facts new.facts
same_shape clues old new t = elim (looked_or_not old.facts old.looks old.turn.line) [
  | inr none ↦ (let P : List (List ℕ) → Type 0 = λ m. SameShape old.facts m in subst P (sym (t.passes none).same_facts) (shape_refl old.facts))
  | inl looked ↦ (t.looks looked).gains.same_shape
]

-- the stage after some turns: the turn is of a line of the facts
record Reaching (clues : Clues) (start : Masks) (s : Stage) : Type 0 where
  shape : SameShape start s.facts
  has : HasLine s.facts s.turn.line
  settling : Settling clues start s.facts s.looks

reaches : (clues : Clues) (start : Masks) → 0 < length start → 0 < width_of start → (turns : ℕ) (s : Stage) → IsAfter clues start turns s → Reaching clues start s
reaches clues start rows columns zero s a =
    let P : Stage → Type 0 = λ t. Reaching clues start t in
    subst P (sym a) (record {
      shape = shape_refl start;
      has = rows;
      settling = record { holds = within_refl start; inside = λ others closed w. w; quiet = λ line has none. absurd (none tt) };
    })
reaches clues start rows columns (suc turns) s a =
    let old = a.0 in
    let t = a.1.1 in
    let before = reaches clues start rows columns turns old a.1.0 in
    let kept = same_shape clues old s t in
    let next : HasLine old.facts s.turn.line = (let P : Turn → Type 0 = λ turn. HasLine old.facts turn.line in
    let tall = before.shape.rows in
    let wide = before.shape.each 0 in
    subst P (sym t.next) (next_there old.facts old.turn (omega arith) (omega arith) before.has)) in
    record {
      shape = shape_trans before.shape kept;
      has = same_has_line old.facts s.facts s.turn.line kept next;
      settling = settles_turn clues start old s before.has t before.settling;
    }

-- a run ends at the least closed facts
run_settles : (clues : Clues) (start end : Masks) (looks : List Look) (picture : Rows) → Fills clues start picture → IsRun clues start looks end → IsLeast clues start end
run_settles clues start end looks picture fills run =
    let is = fills.is_picture in
    let rows = fills.same_shape.rows in
    let columns = fills.same_shape.each 0 in
    let there = reaches clues start (let h = is.has_row in omega arith) (let h = is.has_column in omega arith) run.turns (stage run.turn end looks) run.reached in
    let s = there.settling in
    let own : IsClosed clues (only picture) = let P : Clues → Type 0 = λ c. IsClosed c (only picture) in subst P fills.has_clues (only_is_closed.closed picture is) in
    let inside = s.inside (only picture) own ((only_is_closed.within picture start fills.same_shape).0 fills.leaves) in
    let shape = shape_trans fills.same_shape there.shape in
    let leaves = (only_is_closed.within picture end shape).1 inside in
    record {
      closed = λ line has. elim (open_or_single end line) [
        | inl o ↦ s.quiet line has (λ due. run.quiet line has (due, o))
        | inr single ↦ single_is_closed clues end picture shape leaves own line has single
      ];
      holds = s.holds;
      least = s.inside;
    }

pub runs_settle : RunsSettle
runs_settle clues start end looks picture fills run = run_settles clues start end looks picture fills run

-- ---- one run

one_look : (clues : Clues) (old new other : Stage) → LooksAt clues old new → LooksAt clues old other → new.facts ≡ other.facts
one_look clues old new other a b =
    let line = old.turn.line in
    let clue = clue_at clues line in
    within_both new.facts other.facts
    (gains_inside clue line old.facts new.facts a.outcome a.gains other.facts (gains_grows clue line old.facts other.facts b.outcome b.gains)
    (gains_closes clue line old.facts other.facts b.outcome b.gains))
    (gains_inside clue line old.facts other.facts b.outcome b.gains new.facts (gains_grows clue line old.facts new.facts a.outcome a.gains)
    (gains_closes clue line old.facts new.facts a.outcome a.gains))

same_stage : (a b : Stage) → a.turn ≡ b.turn → a.facts ≡ b.facts → a.looks ≡ b.looks → a ≡ b
same_stage a b t f l = λ i. record { turn = t i; facts = f i; looks = l i }

one_turn : (clues : Clues) (old new other : Stage) → TakesTurn clues old new → TakesTurn clues old other → new ≡ other
one_turn clues old new other a b =
    let turn = a.next ∙ sym b.next in
    elim (looked_or_not old.facts old.looks old.turn.line) [
      | inr none ↦ (let p = a.passes none in let q = b.passes none in same_stage new other turn (p.same_facts ∙ sym q.same_facts) (p.same_looks ∙ sym q.same_looks))
      | inl looked ↦ (
          let l = a.looks looked in
          let m = b.looks looked in
          let facts = one_look clues old new other l m in
          same_stage new other turn facts (l.noted ∙ (ap (λ (f : List (List ℕ)). look_in old.turn old.facts f ∷ old.looks) facts ∙ sym m.noted)))
    ]

one_after : (clues : Clues) (start : Masks) (turns : ℕ) (s t : Stage) → IsAfter clues start turns s → IsAfter clues start turns t → s ≡ t
one_after clues start zero s t a b = a ∙ sym b
one_after clues start (suc turns) s t a b =
    let same = one_after clues start turns a.0 b.0 a.1.0 b.1.0 in
    let P : Stage → Type 0 = λ old. TakesTurn clues old s in
    one_turn clues b.0 s t (subst P same a.1.1) b.1.1

-- after the end of a run all turns pass by
stays_quiet : (clues : Clues) (start end : Masks) (looks : List Look) → 0 < length start → 0 < width_of start → IsQuiet end looks → (more turns : ℕ) (turn : Turn)
    → IsAfter clues start turns (stage turn end looks) → (last : Turn) × IsAfter clues start (turns + more) (stage last end looks)
stays_quiet clues start end looks rows columns quiet zero turns turn a =
    let same : turns ≡ turns + 0 = omega arith in
    (turn, let P : ℕ → Type 0 = λ n. IsAfter clues start n (stage turn end looks) in subst P same a)
stays_quiet clues start end looks rows columns quiet (suc more) turns turn a =
    let there = reaches clues start rows columns turns (stage turn end looks) a in
    let next = pass_by clues start end looks turns turn a (quiet turn.line there.has) in
    let rest = stays_quiet clues start end looks rows columns quiet more (suc turns) (next_turn end turn) next in
    let same : suc turns + more ≡ turns + suc more = omega arith in
    (rest.0, let P : ℕ → Type 0 = λ n. IsAfter clues start n (stage rest.0 end looks) in subst P same rest.1)

one_run_by : (clues : Clues) (start end last : Masks) (looks others : List Look) → 0 < length start → 0 < width_of start → (one : IsRun clues start looks end) (other : IsRun clues start others last)
    → one.turns ≤ other.turns → (looks ≡ others) × (end ≡ last)
one_run_by clues start end last looks others rows columns one other l =
    let more = other.turns - one.turns in
    let on = stays_quiet clues start end looks rows columns one.quiet more one.turns one.turn one.reached in
    let count : one.turns + more ≡ other.turns = omega arith in
    let P : ℕ → Type 0 = λ n. IsAfter clues start n (stage on.0 end looks) in
    let same = one_after clues start other.turns (stage on.0 end looks) (stage other.turn last others) (subst P count on.1) other.reached in
    (ap (λ (s : Stage). s.looks) same, ap (λ (s : Stage). s.facts) same)

pub runs_are_one : RunsAreOne
runs_are_one clues start end last looks others is one other = elim (cases_lt other.turns one.turns) [
  | inr l ↦ one_run_by clues start end last looks others is.has_row is.has_column one other l
  | inl l ↦ (let same = one_run_by clues start last end others looks is.has_row is.has_column other one (let m : other.turns ≤ one.turns = omega arith in m) in (sym same.0, sym same.1))
]
