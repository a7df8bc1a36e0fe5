-- Whether a line forces what a step draws.
use Rattle.std.proofs.Common.{◌≡◌, ℕ, ◌<◌, ◌↔◌, Bool, true, false, List, length, refl, sym, subst, arith, IsTrue, MatchBool}
use Rattle.std.proofs.lemmas.Bool.{false≢true}
use Rattle.line_facts.specs.Masks.{Masks}
use Rattle.picture.specs.declared.line_id.Axis.{Axis}
use Rattle.picture.specs.declared.line_id.Axis.TheVariants.{Across, Down}
use Rattle.picture.specs.declared.line_id.LineId.{LineId}
use Rattle.picture.specs.Rows.{line_of, lines_along, width_of, HasLine, Rows}
use Rattle.clues.specs.declared.block.Block.{Block}
use Rattle.clues.specs.ClueBook.{Clues, clue_at, clues_along, HasClue}
use Rattle.line_facts.specs.declared.line_engine.Outcome.{Outcome}
use Rattle.line_facts.specs.NarrowedLine.{Narrows}
use Rattle.justify.specs.declared.premise.Premise.{Premise}
use Rattle.justify.specs.declared.step.Step.{Step}
use Rattle.justify.specs.Premises.{premise_at, HasSaid, LeavesRest, Mentions, Says}
use Rattle.justify.specs.Steps.{step_at, IsForcedStep}
use Rattle.justify.proofs.ForcingLemmas.{have_without, without_have}

module _ (clue : List Block) (step : Step) (left out : List ℕ) (outcome : Outcome) (rest : LeavesRest step.premises left) (n : Narrows clue left outcome out) where
  forced_if : (HasSaid step.drawn out → ⊥) → IsForcedStep clue (length left) step
  forced_if none i k says can = none (record {
    place = i;
    colour = k;
    says = says;
    has = (n.exact i k).1 (without_have clue left (length left) (Says step.premises) refl (λ j h b small not. (rest j h b).1 (small, not)) i k can);
  })

  not_forced : HasSaid step.drawn out → IsForcedStep clue (length left) step → ⊥
  not_forced h forced =
      forced h.place h.colour h.says (have_without clue left (length left) (Says step.premises) refl (λ j c b s. (rest j c b).0 s) h.place h.colour ((n.exact h.place h.colour).0 h.has))

  pub forced_is : (result : Bool) → MatchBool result (HasSaid step.drawn out → ⊥) (HasSaid step.drawn out) → IsTrue result ↔ IsForcedStep clue (length left) step
  forced_is true h = ((λ t. forced_if h), (λ f. refl))
  forced_is false h = ((λ t. absurd (false≢true t)), (λ f. absurd (not_forced h f)))

-- ---- lines of facts

clue_along : (axis : Axis) (at : ℕ) (rows : Rows) (clues : Clues) → length rows ≡ length clues.rows → width_of rows ≡ length clues.columns → at < lines_along axis rows
    → at < length (clues_along axis clues)
clue_along Across at rows clues r c h = omega arith
clue_along Down at rows clues r c h = omega arith

pub has_clue : (rows : Rows) (line : LineId) (clues : Clues) → length rows ≡ length clues.rows → width_of rows ≡ length clues.columns → HasLine rows line → HasClue clues line
has_clue rows line clues r c h = clue_along line.axis line.at rows clues r c h

-- where all places of the premises are on the line, that of each item is
pub place_inside : (items premises : List Premise) (n cells : ℕ) → items ≡ premises → ((i : ℕ) → Mentions premises i → i < cells) → n < length items → (premise_at items n).at < cells
place_inside items premises n cells e inside l =
    inside (premise_at items n).at (subst (λ (ps : List Premise). Mentions ps (premise_at items n).at) e (record { which = n; within = l; here = refl }))

pub mentions_same : (items premises : List Premise) (cells : ℕ) → items ≡ premises → ((i : ℕ) → Mentions premises i → i < cells) → (i : ℕ) → Mentions items i → i < cells
mentions_same items premises cells e inside = let P : List Premise → Type 0 = λ ps. (i : ℕ) → Mentions ps i → i < cells in subst P (sym e) inside

-- what is forced of a step that was read from a book
pub forced_at : (clues : Clues) (base : Masks) (steps : List Step) (n : ℕ) (step : Step) (clue : List Block) (cells : ℕ) → step ≡ step_at steps n → clue ≡ clue_at clues step.line
    → cells ≡ length (line_of base step.line) → IsForcedStep clue cells step ↔ IsForcedStep (clue_at clues (step_at steps n).line) (length (line_of base (step_at steps n).line)) (step_at steps n)
forced_at clues base steps n step clue cells same e len = grind (arith, clue_at, length, line_of)
