-- What a look needs of its line.
use Rattle.std.proofs.Common.{◌≡◌, ℕ, List, sym, subst, ◌∙◌}
use Rattle.clues.specs.declared.block.Block.{Block}
use Rattle.line_facts.specs.Masks.{Masks}
use Rattle.line_facts.specs.declared.line_engine.Outcome.{Outcome}
use Rattle.line_facts.specs.FactSets.{Gains}
use Rattle.line_settle.specs.LeftOut.{LeavesOut}
use Rattle.picture.specs.declared.line_id.LineId.{LineId}
use Rattle.picture.specs.Rows.{line_of}
use Rattle.justify.specs.declared.premise.Premise.{Premise}
use Rattle.grade.specs.Needs.{AreDrawn, AreLeft, AreNeeded, premises_of}

-- what is left after leaving out what is not needed
pub needed : (clue : List Block) (before after old new drawn left kept : List ℕ) → old ≡ before → new ≡ after → left ≡ old → AreDrawn old new drawn → LeavesOut clue drawn left kept
    → (premises : List Premise) → premises ≡ premises_of kept → AreNeeded clue before after premises
needed clue before after old new drawn left kept o n l are trimmed premises is = record {
  drawn = drawn;
  is_drawn = subst (λ (m : List ℕ). AreDrawn before m drawn) n (subst (λ (m : List ℕ). AreDrawn m new drawn) o are);
  kept = kept;
  trimmed = subst (λ (m : List ℕ). LeavesOut clue drawn m kept) (l ∙ o) trimmed;
  are = is;
}

-- what a look leaves
pub left_after : (clue : List Block) (line : LineId) (old new : Masks) (outcome : Outcome) (before after : List ℕ) → before ≡ line_of old line → after ≡ line_of new line
    → Gains clue line old new outcome → AreLeft clue before after
left_after clue line old new outcome before after b a g =
    subst (λ (m : List ℕ). AreLeft clue m after) (sym b) (subst (λ (m : List ℕ). AreLeft clue (line_of old line) m) (sym a) g.narrows.exact)
