-- Runs turn by turn: turns that pass by, and looks.
use Rattle.std.proofs.Common.{◌≡◌, ◌≢◌, ℕ, zero, suc, ◌↔◌, List, ◌∷◌, get_or, refl, sym, ap, subst, ◌∙◌, arith, inl, inr}
use Rattle.line_facts.specs.Masks.{Masks}
use Rattle.picture.specs.declared.line_id.Axis.{Axis}
use Rattle.picture.specs.declared.line_id.Axis.TheVariants.{Across, Down}
use Rattle.picture.specs.declared.line_id.LineId.{LineId}
use Rattle.picture.specs.CrossingLines.{crossing}
use Rattle.picture.specs.LineSet.{Lines, HasName, PutsNames, no_names}
use Rattle.picture.specs.Rows.{line_along, line_of, HasLine, Rows}
use Rattle.clues.specs.ClueBook.{Clues, clue_at}
use Rattle.line_facts.specs.declared.line_engine.Outcome.{Outcome}
use Rattle.line_facts.specs.CrossedLines.{CrossesChange}
use Rattle.line_facts.specs.FactSets.{Gains, IsFacts, IsWithin}
use Rattle.grade.specs.declared.turn.Turn.{Turn}
use Rattle.grade.specs.Looks.{HasOpenCell, IsDue, Look}
use Rattle.grade.specs.Runs.{IsAfter, IsLookedAt, IsQuiet, look_in, next_turn, stage}
use Rattle.grade.specs.Walking.{Passes, Waits}
use Rattle.picture.proofs.BitLaws.{fewer_ones_of}
use Rattle.picture.proofs.LineSetLaws.{members}
use Rattle.line_facts.proofs.FitLaws.{within_tighter}
use Rattle.line_facts.proofs.ForceLaws.{gains_grows}
use Rattle.line_facts.proofs.GridLaws.{cell_along, same_has_line, shape_sym}
use Rattle.fixpoint.proofs.ClosingLaws.{unchanged_line}
use Rattle.grade.proofs.TurnLemmas.{next_has}

-- ---- one turn

pub pass_by : (clues : Clues) (start facts : Masks) (looks : List Look) (turns : ℕ) (turn : Turn) → IsAfter clues start turns (stage turn facts looks) → ¬ IsLookedAt facts looks turn.line
    → IsAfter clues start (suc turns) (stage (next_turn facts turn) facts looks)
pass_by clues start facts looks turns turn a none =
    (stage turn facts looks, (a, record { next = refl; looks = λ l. absurd (none l); passes = λ _. record { same_facts = refl; same_looks = refl } }))

pub look_at : (clues : Clues) (start facts new : Masks) (looks : List Look) (turns : ℕ) (turn : Turn) (outcome : Outcome) → IsAfter clues start turns (stage turn facts looks)
    → IsLookedAt facts looks turn.line → Gains (clue_at clues turn.line) turn.line facts new outcome
    → IsAfter clues start (suc turns) (stage (next_turn facts turn) new (look_in turn facts new ∷ looks))
look_at clues start facts new looks turns turn outcome a looked g =
    (stage turn facts looks, (a, record { next = refl; looks = λ _. record { outcome = outcome; gains = g; noted = refl }; passes = λ none. absurd (none looked) }))

-- turns of lines that do not wait pass by
pub pass_all : (clues : Clues) (start facts : Masks) (looks : List Look) (due : Lines) (n turns : ℕ) (from to : Turn) → IsFacts facts → HasLine facts from.line → Waits facts looks due
    → IsAfter clues start turns (stage from facts looks) → Passes facts due n from to → (m : ℕ) × IsAfter clues start m (stage to facts looks)
pass_all clues start facts looks due zero turns from to is has w a p = (turns, let P : Turn → Type 0 = λ t. IsAfter clues start turns (stage t facts looks) in subst P (sym p) a)
pass_all clues start facts looks due (suc n) turns from to is has w a p =
    pass_all clues start facts looks due n (suc turns) (next_turn facts from) to is (next_has facts from is has) w
    (pass_by clues start facts looks turns from a (λ looked. p.0 (w.each from.line has looked))) p.1

-- ---- what a look does to the lines that are due

-- a cell that two lines share
crossed : (rows : Rows) (axis : Axis) (at i : ℕ) → get_or (line_along (crossing axis) i rows) at 0 ≡ get_or (line_along axis at rows) i 0
crossed rows Across at i = cell_along Down i rows at ∙ sym (cell_along Across at rows i)
crossed rows Down at i = cell_along Across i rows at ∙ sym (cell_along Down at rows i)

other_axis : (axis : Axis) → crossing axis ≢ axis
other_axis Across e = cc
other_axis Down e = cc

-- a cell that has more than one colour left had more than one before
pub still_open : (old new : Masks) (line : LineId) → IsWithin old new → HasOpenCell new line → HasOpenCell old line
still_open old new line w open_cell =
    let tighter = within_tighter old new w line in
    let fewer = fewer_ones_of (get_or (line_of old line) open_cell.0 0) (get_or (line_of new line) open_cell.0 0) (tighter.leaves open_cell.0) in
    (open_cell.0, (let l = open_cell.1 in omega arith))

module _ (clues : Clues) (old new : Masks) (looks : List Look) (turn : Turn) (outcome : Outcome) (has : HasLine old turn.line) (g : Gains (clue_at clues turn.line) turn.line old new outcome) where
  look : Look
  look = look_in turn old new

  -- a line that crosses a cell that changes is another line, and is changed
  crosses_changed : (other : LineId) → CrossesChange turn.line (line_of old turn.line) (line_of new turn.line) other → (turn.line ≢ other) × (line_of old other ≢ line_of new other)
  crosses_changed other x =
      let line = turn.line in (
        (λ e. other_axis line.axis (sym (ap (λ (l : LineId). l.axis) x.is_crossing) ∙ sym (ap (λ (l : LineId). l.axis) e))),
        (λ same. x.differs (
            sym (crossed old line.axis line.at other.at)
            ∙ (ap (λ (l : LineId). get_or (line_of old l) line.at 0) (sym x.is_crossing)
            ∙ (ap (λ (cells : List ℕ). get_or cells line.at 0) same
            ∙ (ap (λ (l : LineId). get_or (line_of new l) line.at 0) x.is_crossing
            ∙ crossed new line.axis line.at other.at))))),
      )

  -- the lines that wait after a look: those that waited, but for the line itself, and those that cross a cell that changed
  pub waits_after : (due changed after : Lines) → ((line : LineId) → HasName due line → IsDue looks line) → ¬ HasName due turn.line
      → ((line : LineId) → HasLine old line → line ≢ turn.line → IsLookedAt old looks line → HasName due line)
      → ((other : LineId) → HasName changed other ↔ CrossesChange turn.line (line_of old turn.line) (line_of new turn.line) other) → PutsNames due after changed
      → Waits new (look_in turn old new ∷ looks) after
  waits_after due changed after are gone each crosses puts = record {
    are_due = λ line h. elim ((puts line).0 h) [
      | inl waited ↦ ((λ e. gone (let P : LineId → Type 0 = λ l. HasName due l in subst P (sym e) waited)), inr (are line waited))
      | inr c ↦ let x = crosses_changed line ((crosses line).0 c) in (x.0, inl x.1)
    ];
    each = λ line h looked.
        let there : HasLine old line = same_has_line new old line (shape_sym g.same_shape) h in
        let apart : line ≢ turn.line = λ e. looked.0.0 (sym e) in
        elim looked.0.1 [
          | inl changes ↦ elim (members.decided changed line) [
            | inl c ↦ (puts line).1 (inr c)
            | inr none ↦ absurd (changes (sym (unchanged_line clues turn.line old new outcome has g line apart (λ x. none ((crosses line).1 x)))))
          ]
          | inr was_due ↦
              let was_open = still_open old new line (gains_grows (clue_at clues turn.line) turn.line old new outcome g) looked.1 in
              (puts line).1 (inl (each line there apart (was_due, was_open)))
        ];
  }

-- no line waits: the run is over
pub all_quiet : (facts : Masks) (looks : List Look) (due : Lines) → due ≡ no_names → Waits facts looks due → IsQuiet facts looks
all_quiet facts looks due none w line has looked = members.empty line (let P : Lines → Type 0 = λ l. HasName l line in subst P none (w.each line has looked))
