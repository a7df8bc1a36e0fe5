-- The reason for one exclusion.
use Rattle.std.proofs.Common.{◌≡◌, ℕ, ◌*◌, ◌%◌, ◌^◌, ◌<◌, ◌≤◌, List, length, refl, sym, ap, ◌∙◌, subst, arith, inl, inr, get_or, set, replicate, get_or-set_same, get_or-set_other}
use Rattle.std.specs.Prelude.{IsBitSet}
use Rattle.std.proofs.lemmas.Bool.{cases_eq}
use Rattle.std.proofs.lemmas.List.{get_or_past, get_or-replicate, length-replicate}
use Rattle.picture.specs.Rows.{line_of}
use Rattle.clues.specs.declared.block.Block.{Block}
use Rattle.clues.specs.ClueBook.{Clues, clue_at}
use Rattle.line_facts.specs.FactSets.{Leaves, row_on, col_on}
use Rattle.line_settle.specs.LeftOut.{ForcesAll}
use Rattle.justify.specs.declared.premise.Premise.{Premise}
use Rattle.justify.specs.declared.step.Step.{Step}
use Rattle.justify.specs.Premises.{IsMark, LeavesRest, Mentions, Says, SaysBut}
use Rattle.justify.specs.Exclusions.{CanHaveWithout, ForcesFrom}
use Rattle.justify.specs.Steps.{step_at, Draws}
use Rattle.justify.specs.Book.{Account, CanFollow, IsAccount, IsDerivation}
use Rattle.justify.specs.Needs.{AreNeeded}
use Rattle.justify.specs.Reasons.{Argues, Supports}
use Rattle.picture.proofs.BitLaws.{no_bit, power_has}
use Rattle.line_facts.proofs.MaskLaws.{shifted}
use Rattle.justify.proofs.SaidLemmas.{says_or_not}
use Rattle.justify.proofs.ForcingLemmas.{have_without}

-- ---- one colour marked

no_longer : (n i : ℕ) → n ≤ i → length (replicate {A = ℕ} n 0) ≤ i
no_longer n i past = omega (arith, length-replicate {A = ℕ} n 0)

within_blank : (n i : ℕ) → i < n → i < length (replicate {A = ℕ} n 0)
within_blank n i l = omega (arith, length-replicate {A = ℕ} n 0)

blank : (n i : ℕ) → ◌≡◌ {A = ℕ} (get_or {A = ℕ} (replicate {A = ℕ} n 0) i 0) 0
blank n i = grind (arith, get_or-replicate, get_or_past, no_longer, replicate)

module _ (n place colour : ℕ) (within : place < n) (small : colour < 16) where
  mark_here : get_or (set (replicate n 0) place (1 * 2 ^ colour % 65536)) place 0 ≡ 2 ^ colour
  mark_here = get_or-set_same (replicate n 0) place (1 * 2 ^ colour % 65536) 0 (within_blank n place within) ∙ shifted colour small

  mark_alone : (i k : ℕ) → IsBitSet (get_or (set (replicate n 0) place (1 * 2 ^ colour % 65536)) i 0) k → (i ≡ place) × (k ≡ colour)
  mark_alone i k s =
      let P : ℕ → Type 0 = λ c. IsBitSet c k in
      let xs = set (replicate n 0) place (1 * 2 ^ colour % 65536) in
      elim (cases_eq i place) [
        | inl at ↦ (at, (power_has colour k).0 (subst P mark_here (let Q : ℕ → Type 0 = λ j. IsBitSet (get_or xs j 0) k in subst Q at s)))
        | inr other ↦ absurd (no_bit k (subst P (get_or-set_other (replicate n 0) place i (1 * 2 ^ colour % 65536) 0 other ∙ blank n i) s))
      ]

  marked_blank : IsMark place colour (set (replicate n 0) place (1 * 2 ^ colour % 65536))
  marked_blank = record { here = (let P : ℕ → Type 0 = λ c. IsBitSet c colour in subst P (sym mark_here) ((power_has colour colour).1 refl)); alone = mark_alone }

pub marked : (masks : List ℕ) (n place colour : ℕ) → masks ≡ replicate n 0 → place < n → colour < 16 → IsMark place colour (set masks place (1 * 2 ^ colour % 65536))
marked masks n place colour e within small =
    subst (λ (ms : List ℕ). IsMark place colour (set ms place (1 * 2 ^ colour % 65536))) (sym e) (marked_blank n place colour within small)

-- ---- what is needed for it

module _ (clue : List Block) (all : List Premise) (left drawn : List ℕ) (place colour : ℕ) (rest : LeavesRest all left) (mark : IsMark place colour drawn) where
  pub forces_mark : ForcesFrom clue (length left) (Says all) place colour → ForcesAll clue left drawn
  forces_mark forced i k d c = grind (arith, have_without, length)

  pub supports : (premises : List Premise) → AreNeeded clue left drawn premises → Supports clue (length left) all place colour premises
  supports premises a = record {
    are = a.are;
    among = λ i k s.
        let m : Mentions premises i = record { which = s.which; within = s.within; here = s.here } in
        let w = (a.whole i k m).0 s in
        elim (says_or_not all i k) [ inl says ↦ says | inr none ↦ absurd (w.1 ((rest i k (a.inside i m)).1 (w.0, none))) ];
    forced = a.forced place colour mark.here;
    trimmed = λ cell m.
        let t = a.trimmed cell m in
        let e = mark.alone t.place t.colour t.is_drawn in
        subst (λ (h : ℕ). CanHaveWithout clue (length left) (SaysBut premises cell) place h) e.1
        (subst (λ (j : ℕ). CanHaveWithout clue (length left) (SaysBut premises cell) j t.colour) e.0 t.can_have);
  }

-- ---- in a book

module _ (clues : Clues) (book : Account) (row col k n place : ℕ) (is : IsAccount book) (within : n < length book.steps) (d : Draws (step_at book.steps n) row col k)
    (one : (i : ℕ) → row ≡ row_on (step_at book.steps n).line.axis (step_at book.steps n).line.at i → col ≡ col_on (step_at book.steps n).line.axis (step_at book.steps n).line.at i → i ≡ place) where
  at_row : row ≡ row_on (step_at book.steps n).line.axis (step_at book.steps n).line.at place
  at_row = d.in_row ∙ ap (λ i. row_on (step_at book.steps n).line.axis (step_at book.steps n).line.at i) (one d.place d.in_row d.in_column)

  at_column : col ≡ col_on (step_at book.steps n).line.axis (step_at book.steps n).line.at place
  at_column = d.in_column ∙ ap (λ i. col_on (step_at book.steps n).line.axis (step_at book.steps n).line.at i) (one d.place d.in_row d.in_column)

  pub says_there : Says (step_at book.steps n).drawn place k
  says_there = let P : ℕ → Type 0 = λ i. Says (step_at book.steps n).drawn i k in subst P (one d.place d.in_row d.in_column) d.says

  pub argues : (premises : List Premise) → Leaves book.base row col k → Supports (clue_at clues (step_at book.steps n).line) (length (line_of book.base (step_at book.steps n).line))
      (step_at book.steps n).premises place k premises → Argues clues book row col k (record { step = n; line = (step_at book.steps n).line; premises = premises })
  argues premises leaves s =
      let line = (step_at book.steps n).line in
      let follows = is.follows n within in
      let there = subst (λ (c : ℕ). Leaves book.base (row_on line.axis line.at place) c k) at_column (subst (λ (r : ℕ). Leaves book.base r col k) at_row leaves) in
      record {
        in_book = within;
        line = refl;
        place = place;
        in_row = at_row;
        in_column = at_column;
        is_drawn = says_there;
        support = s;
        apart = λ says. elim (follows.known place k (s.among place k says)) [
          | inl given ↦ given there
          | inr earlier ↦ follows.drawn_once place k says_there earlier
        ];
      }

-- ---- of a step that was read from the book

says_along : (step : Step) (row col k place : ℕ) → Draws step row col k → ((i : ℕ) → row ≡ row_on step.line.axis step.line.at i → col ≡ col_on step.line.axis step.line.at i → i ≡ place)
    → Says step.drawn place k
says_along step row col k place d one = let P : ℕ → Type 0 = λ i. Says step.drawn i k in subst P (one d.place d.in_row d.in_column) d.says

module _ (clues : Clues) (book : Account) (row col k n place : ℕ) (step : Step) (is : IsAccount book) (within : n < length book.steps) (same : step ≡ step_at book.steps n)
    (d : Draws (step_at book.steps n) row col k) (one : (i : ℕ) → row ≡ row_on step.line.axis step.line.at i → col ≡ col_on step.line.axis step.line.at i → i ≡ place) where
  draws_own : Draws step row col k
  draws_own = let P : Step → Type 0 = λ s. Draws s row col k in subst P (sym same) d

  pub place_of_step : place < length (line_of book.base step.line)
  place_of_step =
      let says = says_along step row col k place draws_own one in
      (subst (λ (s : Step). CanFollow book.base book.steps n s) (sym same) (is.follows n within)).drawn_inside place (record { which = says.which; within = says.within; here = says.here })

  pub forced_there : IsDerivation clues book → ForcesFrom (clue_at clues step.line) (length (line_of book.base step.line)) (Says step.premises) place k
  forced_there derives = grind (arith, clue_at, draws_own, length, line_of, says_along)

  pub argues_by : (premises : List Premise) → Leaves book.base row col k → Supports (clue_at clues step.line) (length (line_of book.base step.line)) step.premises place k premises
      → Argues clues book row col k (record { step = n; line = step.line; premises = premises })
  argues_by premises leaves support =
      let P : Step → Type 0 = λ s. ((i : ℕ) → row ≡ row_on s.line.axis s.line.at i → col ≡ col_on s.line.axis s.line.at i → i ≡ place)
      → Supports (clue_at clues s.line) (length (line_of book.base s.line)) s.premises place k premises → Argues clues book row col k (record { step = n; line = s.line; premises = premises }) in
      subst P (sym same) (λ one_at s. argues clues book row col k n place is within d one_at premises leaves s) one support
