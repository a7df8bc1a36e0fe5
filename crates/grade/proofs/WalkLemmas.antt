-- A walk from look to look.
use Rattle.std.proofs.Common.{◌≡◌, ℕ, suc, ◌≤◌, ◌↔◌, List, ◌∷◌, sym, ap, subst, ◌∙◌, arith, inl, inr}
use Rattle.line_facts.specs.Masks.{Masks}
use Rattle.picture.specs.declared.line_id.LineId.{LineId}
use Rattle.picture.specs.LineSet.{Lines, HasName, PutsNames, TakesOutName, no_names}
use Rattle.picture.specs.Rows.{line_of, HasLine}
use Rattle.clues.specs.ClueBook.{Clues, clue_at}
use Rattle.line_facts.specs.declared.line_engine.Outcome.{Outcome}
use Rattle.line_facts.specs.CrossedLines.{CrossesChange}
use Rattle.line_facts.specs.FactSets.{Gains, IsFacts}
use Rattle.fixpoint.specs.LeftToDo.{left_to_do}
use Rattle.grade.specs.declared.turn.Turn.{Turn}
use Rattle.grade.specs.declared.walk.Walk.{Walk}
use Rattle.grade.specs.Looks.{HasOpenCell, Look}
use Rattle.grade.specs.Runs.{IsAfter, IsRun, look_in, next_turn, stage}
use Rattle.grade.specs.Walking.{CanWalk, IsAbout, IsNextWaiting, Walks}
use Rattle.picture.proofs.LineSetLaws.{cases_name}
use Rattle.line_facts.proofs.ForceLaws.{gains_grows}
use Rattle.line_facts.proofs.GridLaws.{same_has_line}
use Rattle.fixpoint.proofs.ClosingLaws.{lines_after}
use Rattle.fixpoint.proofs.WorkLaws.{crossing_put}
use Rattle.fixpoint.proofs.LeftLaws.{no_more_left}
use Rattle.grade.proofs.RunLemmas.{all_quiet, look_at, pass_all, pass_by, waits_after}

module _ (clues : Clues) (start facts : Masks) (looks : List Look) (walk next : Walk) (turn : Turn) (is : IsFacts facts) (can : CanWalk facts walk) (w : Walks clues start looks facts walk)
    (n : IsNextWaiting facts walk.due walk.turn turn) (takes : TakesOutName walk.due next.due turn.line) (behind : next.turn ≡ next_turn facts turn) where
  -- the turn of the next line that waits
  arrived : (m : ℕ) × IsAfter clues start m (stage turn facts looks)
  arrived = pass_all clues start facts looks walk.due n.turns w.turns walk.turn turn is can.has_turn w.waits w.reached n.passes

  -- it has an open cell, and is looked at
  pub about_to_look : HasOpenCell facts turn.line → IsAbout clues start looks facts turn next
  about_to_look open_cell = record {
    turns = arrived.0;
    reached = arrived.1;
    looked = (w.waits.are_due turn.line n.waits, open_cell);
    next = behind;
    due = λ line h. w.waits.are_due line ((takes line).0 h).0;
    each = λ line has apart looked. (takes line).1 (w.waits.each line has looked, apart);
  }

  -- it has none, and passes by
  pub passes_closed : (HasOpenCell facts turn.line → ⊥) → Walks clues start looks facts next
  passes_closed closed =
      let after = pass_by clues start facts looks arrived.0 turn arrived.1 (λ looked. closed looked.1) in
      record {
        turns = suc arrived.0;
        reached = (let P : Turn → Type 0 = λ t. IsAfter clues start (suc arrived.0) (stage t facts looks) in subst P (sym behind) after);
        waits = record {
          are_due = λ line h. w.waits.are_due line ((takes line).0 h).0;
          each = λ line has looked. elim (cases_name line turn.line) [
            | inl e ↦ absurd (closed (let P : LineId → Type 0 = λ l. HasOpenCell facts l in subst P e looked.1))
            | inr apart ↦ (takes line).1 (w.waits.each line has looked, apart)
          ];
        };
      }

-- no line waits: the run is over
pub run_ends : (clues : Clues) (start facts : Masks) (looks : List Look) (walk : Walk) → Walks clues start looks facts walk → walk.due ≡ no_names → IsRun clues start looks facts
run_ends clues start facts looks walk w none = record {
  turns = w.turns;
  turn = walk.turn;
  reached = w.reached;
  quiet = all_quiet facts looks walk.due none w.waits;
}

module _ (clues : Clues) (old new : Masks) (walk next : Walk) (turn : Turn) (outcome : Outcome) (changed : Lines) (is : IsFacts old) (has : HasLine old turn.line) (can : CanWalk old walk)
    (gone : ¬ HasName walk.due turn.line) (g : Gains (clue_at clues turn.line) turn.line old new outcome)
    (crosses : (other : LineId) → HasName changed other ↔ CrossesChange turn.line (line_of old turn.line) (line_of new turn.line) other) (puts : PutsNames walk.due next.due changed)
    (same_turn : next.turn ≡ walk.turn) where
  -- after a look no more is left to do
  pub less_after : left_to_do new next.due ≤ left_to_do old walk.due
  less_after =
      let put = crossing_put turn.line (line_of old turn.line) (line_of new turn.line) changed crosses walk.due next.due puts in
      no_more_left old new walk.due next.due turn.line is has (gains_grows (clue_at clues turn.line) turn.line old new outcome g) put

  pub can_after : CanWalk new next
  can_after =
      let put = crossing_put turn.line (line_of old turn.line) (line_of new turn.line) changed crosses walk.due next.due puts in
      let kept : TakesOutName walk.due walk.due turn.line = λ other. ((λ h. (h, λ e. gone (let P : LineId → Type 0 = λ l. HasName walk.due l in subst P e h))), (λ h. h.0)) in
      let less = less_after in
      let round = ap (λ (t : Turn). t.round) same_turn in
      record {
        lines = lines_after turn.line old new walk.due walk.due next.due is has g.same_shape can.lines kept put;
        has_turn = (let P : Turn → Type 0 = λ t. HasLine new t.line in subst P (sym same_turn) (same_has_line old new walk.turn.line g.same_shape can.has_turn));
        room = omega (arith, can.room, less, round);
      }

  pub walks_after : (start : Masks) (looks : List Look) → IsAbout clues start looks old turn walk → Walks clues start (look_in turn old new ∷ looks) new next
  walks_after start looks about =
      let after = look_at clues start old new looks about.turns turn outcome about.reached about.looked g in
      record {
        turns = suc about.turns;
        reached = (let P : Turn → Type 0 = λ t. IsAfter clues start (suc about.turns) (stage t new (look_in turn old new ∷ looks)) in
            let same : next_turn old turn ≡ next.turn = sym (same_turn ∙ about.next) in
            subst P same after);
        waits = waits_after clues old new looks turn outcome has g walk.due changed next.due about.due gone about.each crosses puts;
      }
