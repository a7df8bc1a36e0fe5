-- Lines evaluated one after another: what stays true, and what comes of it.
use Rattle.std.proofs.Common.{◌≡◌, ◌≢◌, ℕ, ◌<◌, ◌≤◌, ◌↔◌, List, length, get_or, refl, sym, ap, subst, ◌∙◌, arith, ◌⊎◌, inl, inr}
use Rattle.std.proofs.lemmas.Bool.{cases_eq, cases_lt}
use Rattle.std.proofs.lemmas.List.{get_or_past, length-map}
use Rattle.line_facts.specs.Masks.{Masks}
use Rattle.picture.specs.declared.line_id.Axis.{Axis}
use Rattle.picture.specs.declared.line_id.Axis.TheVariants.{Across, Down}
use Rattle.picture.specs.declared.line_id.LineId.{LineId}
use Rattle.picture.specs.LineSet.{Lines, HasName, PutsNames, TakesOutName, no_names}
use Rattle.picture.specs.Rows.{width_of, cell_at, line_along, line_of, lines_along, HasLine, Rows}
use Rattle.clues.specs.ClueBook.{Clues, clue_at, clues_along}
use Rattle.line_facts.specs.declared.line_engine.Outcome.{Outcome}
use Rattle.line_facts.specs.declared.line_engine.Outcome.TheVariants.{Narrowed, Dead}
use Rattle.line_facts.specs.Fits.{CanFit}
use Rattle.line_facts.specs.FactSets.{IsFacts, IsClosed, IsWithin, SameShape, Gains, row_on, col_on}
use Rattle.line_facts.specs.CrossedLines.{CrossesChange}
use Rattle.picture.specs.CrossingLines.{crossing, crossing_at}
use Rattle.fixpoint.specs.ClosedFacts.{AreClosable, IsQuietLine, QuietOutside, Closes, KeepsOtherLines, PutsCrossing}
use Rattle.fixpoint.specs.LineNames.{AreLinesOf}
use Rattle.picture.proofs.LineSetLaws.{same_name, cases_name, members}
use Rattle.line_facts.proofs.GridLaws.{cell_on, same_line_length, same_has_line, shape_refl, shape_trans, shape_sym, same_list}
use Rattle.line_facts.proofs.AlongLaws.{place_on}
use Rattle.line_facts.proofs.FitLaws.{tighter_fits, within_tighter, fits_narrowed}
use Rattle.line_facts.proofs.ForceLaws.{on_or_not, gains_grows, gains_inside, gains_closes}

-- ---- cells on a line

at_on : (facts : Masks) (line : LineId) (row col i : ℕ) → row ≡ row_on line.axis line.at i → col ≡ col_on line.axis line.at i → cell_at facts row col ≡ get_or (line_of facts line) i 0
at_on facts line row col i r c = ap (λ n. cell_at facts n col) r ∙ (ap (λ n. cell_at facts (row_on line.axis line.at i) n) c ∙ sym (cell_on facts line i))

-- two lines that share a cell are one line, or they cross there
shared_cell : (a b : Axis) (at bt i j : ℕ) → row_on b bt j ≡ row_on a at i → col_on b bt j ≡ col_on a at i → ((b ≡ a) × (bt ≡ at)) ⊎ ((b ≡ crossing a) × (i ≡ bt))
shared_cell Across Across at bt i j r c = inl (refl, r)
shared_cell Across Down at bt i j r c = inr (refl, sym c)
shared_cell Down Across at bt i j r c = inr (refl, sym r)
shared_cell Down Down at bt i j r c = inl (refl, c)

pub within_refl : (a : List (List ℕ)) → IsWithin a a
within_refl a = record { same_shape = shape_refl a; leaves = λ r c k s. s }

pub within_trans : (a b c : List (List ℕ)) → IsWithin a b → IsWithin b c → IsWithin a c
within_trans a b c x y = record { same_shape = shape_trans x.same_shape y.same_shape; leaves = λ r d k s. x.leaves r d k (y.leaves r d k s) }

-- a line of the facts has a clue, and is not too long for the engine
line_fits : (clues : Clues) (longest : ℕ) (facts : Masks) (axis : Axis) (at : ℕ) → AreClosable clues longest facts → IsFacts facts → at < lines_along axis facts
    → (at < length (clues_along axis clues)) × (length (line_along axis at facts) ≤ longest)
line_fits clues longest facts Across at c is h = (omega (arith, c.rows), omega (arith, is.rectangular at h, c.wide))
line_fits clues longest facts Down at c is h = (omega (arith, c.columns), omega (arith, length-map facts (λ (row : List ℕ). get_or row at 0), c.tall))

pub has_clue : (clues : Clues) (longest : ℕ) (facts : Masks) (line : LineId) → AreClosable clues longest facts → IsFacts facts → HasLine facts line
    → (line.at < length (clues_along line.axis clues)) × (length (line_of facts line) ≤ longest)
has_clue clues longest facts line = line_fits clues longest facts line.axis line.at

-- ---- one line evaluated

module _ (clues : Clues) (line : LineId) (old new : Masks) (outcome : Outcome) (has : HasLine old line) (g : Gains (clue_at clues line) line old new outcome) where
  pub stays_inside : (others : Masks) → IsClosed clues others → IsWithin old others → IsWithin new others
  stays_inside others closed w = gains_inside (clue_at clues line) line old new outcome g others w (closed line (same_has_line old others line w.same_shape has))

  pub dead_stays : outcome ≡ Dead → (others : Masks) → IsWithin old others → CanFit (clue_at clues line) (line_of others line) → ⊥
  dead_stays e others w f =
      let fit : CanFit (clue_at clues line) (line_of old line) = (f.0, tighter_fits (clue_at clues line) (line_of old line) (line_of others line) f.0 (within_tighter old others w line) f.1) in
      let n = g.narrows.fits.1 fit in
      let x : Dead ≡ Narrowed = sym e ∙ n in
      absurd cc

  pub quiet_here : outcome ≡ Narrowed → IsQuietLine (clue_at clues line) (line_of new line)
  quiet_here e =
      let n = g.narrows in
      let f = n.fits.0 e in
      record {
        closed = gains_closes (clue_at clues line) line old new outcome g;
        fits = (f.0, fits_narrowed (clue_at clues line) (line_of old line) f.0 (line_of new line) outcome f.1 n);
      }

  unchanged_cell : (other : LineId) → (other ≡ line → ⊥) → (CrossesChange line (line_of old line) (line_of new line) other → ⊥) → (row col i : ℕ) → row ≡ row_on line.axis line.at i
      → col ≡ col_on line.axis line.at i → other.axis ≡ crossing line.axis → i ≡ other.at → cell_at new row col ≡ cell_at old row col
  unchanged_cell other d n row col i r c ax at = elim (cases_eq (get_or (line_of old line) i 0) (get_or (line_of new line) i 0)) [
    | inl e ↦ at_on new line row col i r c ∙ (sym e ∙ sym (at_on old line row col i r c))
    | inr differs ↦ elim (cases_lt i (length (line_of old line))) [
      | inl l ↦ absurd (n (record {
        is_crossing = same_name other (crossing_at line other.at) ax refl;
        within = omega arith;
        differs = (let P : ℕ → Type 0 = λ m. get_or (line_of old line) m 0 ≢ get_or (line_of new line) m 0 in subst P at differs);
      }))
      | inr past ↦
          let len = same_line_length old new line g.same_shape in
          absurd (differs (get_or_past (line_of old line) i 0 past ∙ sym (get_or_past (line_of new line) i 0 (omega arith))))
    ]
  ]

  pub unchanged_line : (other : LineId) → (other ≡ line → ⊥) → (CrossesChange line (line_of old line) (line_of new line) other → ⊥) → line_of new other ≡ line_of old other
  unchanged_line other d n = same_list (line_of new other) (line_of old other) (same_line_length old new other g.same_shape) (λ j l.
      let row = row_on other.axis other.at j in
      let col = col_on other.axis other.at j in
      let same : cell_at new row col ≡ cell_at old row col = elim (on_or_not line row col) [
        | inl on ↦ elim (shared_cell line.axis other.axis line.at other.at on.0 j on.1 on.2) [
          | inl m ↦ absurd (d (same_name other line m.0 m.1))
          | inr m ↦ unchanged_cell other d n row col on.0 on.1 on.2 m.0 m.1
        ]
        | inr off ↦ g.elsewhere row col off
      ] in
      cell_on new other j ∙ (same ∙ sym (cell_on old other j)))

  pub quiet_after : (agenda rest after : Lines) → outcome ≡ Narrowed → QuietOutside clues old agenda → TakesOutName agenda rest line
      → PutsCrossing line (line_of old line) (line_of new line) rest after → QuietOutside clues new after
  quiet_after agenda rest after e s t p other h not = elim (cases_name other line) [
    | inl same ↦ rw same (quiet_here e)
    | inr d ↦
        let before = s other (same_has_line new old other (shape_sym g.same_shape) h) (λ m. not ((p.names other).1 (inl ((t other).1 (m, d))))) in
        rw (unchanged_line other d (λ x. not ((p.names other).1 (inr x)))) before
  ]

crossing_has : (axis : Axis) (at i : ℕ) (rows : Rows) → row_on axis at i < length rows → col_on axis at i < width_of rows → i < lines_along (crossing axis) rows
crossing_has Across at i rows r c = c
crossing_has Down at i rows r c = r

pub lines_after : (line : LineId) (old new : Masks) (agenda rest after : Lines) → IsFacts old → HasLine old line → SameShape old new → AreLinesOf old agenda → TakesOutName agenda rest line
    → PutsCrossing line (line_of old line) (line_of new line) rest after → AreLinesOf new after
lines_after line old new agenda rest after is has shape of t p other h = same_has_line old new other shape (elim ((p.names other).0 h) [
  | inl m ↦ of other ((t other).0 m).0
  | inr x ↦
      let place = place_on old line other.at is has x.within in
      rw x.is_crossing (crossing_has line.axis line.at other.at old place.0 place.1)
])

-- ---- while lines are evaluated

-- the facts so far lie between the base and every closed facts that hold it, and each line that does not wait is quiet
pub record Closing (clues : Clues) (longest : ℕ) (base facts : Masks) (agenda : Lines) : Type 0 where
  pub closable : AreClosable clues longest facts
  pub lines : AreLinesOf facts agenda
  pub quiet : QuietOutside clues facts agenda
  pub holds : IsWithin base facts
  pub inside : (others : Masks) → IsClosed clues others → IsWithin base others → IsWithin facts others

pub closing_starts : (clues : Clues) (longest : ℕ) (base : Masks) (dirty : Lines) → AreClosable clues longest base → AreLinesOf base dirty → QuietOutside clues base dirty
    → Closing clues longest base base dirty
closing_starts clues longest base dirty c l s = record { closable = c; lines = l; quiet = s; holds = within_refl base; inside = λ others closed w. w }

pub same_sizes : (clues : Clues) (longest : ℕ) (old new : Masks) → SameShape old new → AreClosable clues longest old → AreClosable clues longest new
same_sizes clues longest old new s c =
    let w : width_of old ≡ width_of new = s.each 0 in
    record { rows = omega arith; columns = omega arith; wide = omega arith; tall = omega arith }

pub closing_goes_on : (clues : Clues) (longest : ℕ) (base old new : Masks) (agenda rest after : Lines) (line : LineId) (outcome : Outcome) → Closing clues longest base old agenda → HasName agenda line
    → TakesOutName agenda rest line → IsFacts old → Gains (clue_at clues line) line old new outcome → outcome ≡ Narrowed → PutsCrossing line (line_of old line) (line_of new line) rest after
    → Closing clues longest base new after
closing_goes_on clues longest base old new agenda rest after line outcome c h t is g e p =
    let has = c.lines line h in
    record {
      closable = same_sizes clues longest old new g.same_shape c.closable;
      lines = lines_after line old new agenda rest after is has g.same_shape c.lines t p;
      quiet = quiet_after clues line old new outcome has g agenda rest after e c.quiet t p;
      holds = within_trans base old new c.holds (gains_grows (clue_at clues line) line old new outcome g);
      inside = λ others closed w. stays_inside clues line old new outcome has g others closed (c.inside others closed w);
    }

pub closing_dies : (clues : Clues) (longest : ℕ) (base old new : Masks) (agenda : Lines) (line : LineId) (outcome : Outcome) → Closing clues longest base old agenda → HasName agenda line
    → Gains (clue_at clues line) line old new outcome → outcome ≡ Dead → Closes clues base new outcome
closing_dies clues longest base old new agenda line outcome c h g e =
    let has = c.lines line h in
    record {
      holds = within_trans base old new c.holds (gains_grows (clue_at clues line) line old new outcome g);
      inside = λ others closed w. stays_inside clues line old new outcome has g others closed (c.inside others closed w);
      least = λ n. (let x : Dead ≡ Narrowed = sym e ∙ n in absurd cc);
      fits = λ n. (let x : Dead ≡ Narrowed = sym e ∙ n in absurd cc);
      dead = λ _. record {
        line = line;
        has = same_has_line old base line (shape_sym c.holds.same_shape) has;
        dead = λ others closed w. dead_stays clues line old new outcome has g e others (c.inside others closed w);
      };
    }

pub closing_ends : (clues : Clues) (longest : ℕ) (base facts : Masks) (agenda : Lines) (outcome : Outcome) → Closing clues longest base facts agenda → agenda ≡ no_names → outcome ≡ Narrowed
    → Closes clues base facts outcome
closing_ends clues longest base facts agenda outcome c none e =
    let all : (line : LineId) → HasLine facts line
    → IsQuietLine (clue_at clues line) (line_of facts line) = λ line has. c.quiet line has (λ h. members.empty line (let P : Lines → Type 0 = λ x. HasName x line in subst P none h)) in
    record {
      holds = c.holds;
      inside = c.inside;
      least = λ _. record { closed = λ line has. (all line has).closed; holds = c.holds; least = c.inside };
      fits = λ _ line has. (all line has).fits;
      dead = λ d. (let x : Narrowed ≡ Dead = sym e ∙ d in absurd cc);
    }

-- ---- what stays

-- each line that waits is named, and each that is not named is as it was
pub record Keeping (base facts : Masks) (agenda named : Lines) : Type 0 where
  pub waits : (line : LineId) → HasName agenda line → HasName named line
  pub kept : KeepsOtherLines base facts named

pub keeping_starts : (base : Masks) (agenda named : Lines) → agenda ≡ named → Keeping base base agenda named
keeping_starts base agenda named same = record {
  waits = λ line h. let P : Lines → Type 0 = λ x. HasName x line in subst P same h;
  kept = λ line n. refl;
}

pub keeping_goes_on : (clues : Clues) (base old new : Masks) (agenda rest next named after changed : Lines) (line : LineId) (outcome : Outcome) → Keeping base old agenda named → HasName agenda line
    → TakesOutName agenda rest line → HasLine old line → Gains (clue_at clues line) line old new outcome → ((other : LineId)
    → HasName changed other ↔ CrossesChange line (line_of old line) (line_of new line) other) → PutsNames rest next changed → PutsNames named after changed → Keeping base new next after
keeping_goes_on clues base old new agenda rest next named after changed line outcome k h t has g crosses put puts = record {
  waits = λ other s. (puts other).1 (elim ((put other).0 s) [ inl r ↦ inl (k.waits other ((t other).0 r).0) | inr c ↦ inr c ]);
  kept = λ other n.
      let stays = unchanged_line clues line old new outcome has g other (λ e. n ((puts other).1 (inl (k.waits other (rw e h))))) (λ x. n ((puts other).1 (inr ((crosses other).1 x)))) in
      stays ∙ k.kept other (λ s. n ((puts other).1 (inl s)));
}
