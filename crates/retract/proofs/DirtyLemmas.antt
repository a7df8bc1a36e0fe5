-- What holds on the lines that are not dirty.
use Rattle.std.proofs.Common.{◌≡◌, ℕ, ◌+◌, ◌<◌, ◌≤◌, inl, inr, List, sym, ap, subst, ◌∙◌, arith, ◌↔◌}
use Rattle.std.proofs.lemmas.Bool.{cases_lt}
use Rattle.picture.specs.declared.line_id.Axis.{Axis}
use Rattle.picture.specs.declared.line_id.LineId.{LineId}
use Rattle.picture.specs.LineSet.{Lines, HasName, PutsName}
use Rattle.picture.proofs.LineSetLaws.{same_name}
use Rattle.picture.specs.Rows.{line_of, HasLine}
use Rattle.clues.specs.Change.{Moves}
use Rattle.clues.specs.ClueBook.{Clues, clue_at}
use Rattle.clues.specs.declared.block.Block.{Block}
use Rattle.line_facts.specs.Fits.{CanFit}
use Rattle.line_facts.specs.FactSets.{IsClosed, IsClosedLine}
use Rattle.line_facts.specs.Outside.{EachFits, EachOutside}
use Rattle.retract.specs.Dirty.{AreDirty, IsClean, IsDecided}

is_clean : (moves : Moves) (old new : Clues) (before after : List (List ℕ)) (dirty : Lines) (line : LineId) → IsDecided moves old new before after dirty line → (HasName dirty line → ⊥)
    → IsClean moves old new before after line
is_clean moves old new before after dirty line decided not_named = elim decided [ inl named ↦ absurd (not_named named.0) | inr clean ↦ clean.1 ]

-- a fact of a clue and the masks of a line that held on each old line holds on each clean one
stays_true : (P : List Block → List ℕ → Type 0) (moves : Moves) (old new : Clues) (before after : List (List ℕ)) (dirty : Lines) → AreDirty moves old new before after dirty
    → ((line : LineId) → HasLine before line → P (clue_at old line) (line_of before line)) → (line : LineId) → HasLine after line → (HasName dirty line → ⊥) → P (clue_at new line) (line_of after line)
stays_true P moves old new before after dirty is each line has not_named =
    let clean = is_clean moves old new before after dirty line (is.decided line has) not_named in
    let same = clean.says_the_same in
    rw (same.same_clue, same.same_facts) (each same.from same.has_line)

pub closed_outside : (moves : Moves) (old new : Clues) (before after : List (List ℕ)) (dirty : Lines) → AreDirty moves old new before after dirty → IsClosed old before
    → EachOutside IsClosedLine new after dirty
closed_outside moves old new before after dirty is closed = stays_true IsClosedLine moves old new before after dirty is closed

pub fits_outside : (moves : Moves) (old new : Clues) (before after : List (List ℕ)) (dirty : Lines) → AreDirty moves old new before after dirty → EachFits old before
    → EachOutside CanFit new after dirty
fits_outside moves old new before after dirty is fits = stays_true CanFit moves old new before after dirty is fits

-- the same names, the same decision
decided_alike : (moves : Moves) (old new : Clues) (before after : List (List ℕ)) (one other : Lines) (line : LineId) → HasName other line ↔ HasName one line
    → IsDecided moves old new before after one line → IsDecided moves old new before after other line
decided_alike moves old new before after one other line same decided =
    elim decided [ inl named ↦ inl (same.1 named.0, named.1) | inr clean ↦ inr (λ h. clean.0 (same.0 h), clean.1) ]

-- the lines along an axis below a place
pub record AreDirtyBelow (axis : Axis) (at : ℕ) (moves : Moves) (old new : Clues) (before after : List (List ℕ)) (first dirty : Lines) : Type 0 where
  pub inside : (line : LineId) → line.axis ≡ axis → HasName dirty line → line.at < at
  pub decided : (line : LineId) → line.axis ≡ axis → line.at < at → IsDecided moves old new before after dirty line
  pub others : (line : LineId) → (line.axis ≡ axis → ⊥) → HasName dirty line ↔ HasName first line

module _ (axis : Axis) (at : ℕ) (moves : Moves) (old new : Clues) (before after : List (List ℕ)) (first dirty : Lines) (line : LineId) (along : line.axis ≡ axis) (here : line.at ≡ at)
    (below : AreDirtyBelow axis at moves old new before after first dirty) where
  is_line : (other : LineId) → other.axis ≡ axis → at ≤ other.at → other.at < at + 1 → other ≡ line
  is_line other on h l = same_name other line (on ∙ sym along) (omega (arith, here))

  -- the next line is clean
  pub below_clean : IsClean moves old new before after line → AreDirtyBelow axis (at + 1) moves old new before after first dirty
  below_clean clean = record {
    inside = λ other on named. omega (arith, below.inside other on named);
    decided = λ other on h.
        elim (cases_lt other.at at) [
          | inl l ↦ below.decided other on l
          | inr g ↦
              let same = is_line other on g h in
              inr (λ named. omega (arith, below.inside other on named, ap (λ (l : LineId). l.at) same, here), subst (IsClean moves old new before after) (sym same) clean)
        ];
    others = below.others;
  }

  -- the next line is dirty
  pub below_dirty : (more : Lines) → (IsClean moves old new before after line → ⊥) → PutsName dirty more line → AreDirtyBelow axis (at + 1) moves old new before after first more
  below_dirty more not_clean puts = record {
    inside = λ other on named.
        elim ((puts other).0 named) [
          | inl was ↦ omega (arith, below.inside other on was)
          | inr same ↦ omega (arith, ap (λ (l : LineId). l.at) same, here)
        ];
    decided = λ other on h.
        elim (cases_lt other.at at) [
          | inr g ↦
              let same = is_line other on g h in
              inl ((puts other).1 (inr same), λ clean. not_clean (subst (IsClean moves old new before after) same clean))
          | inl l ↦
              decided_alike moves old new before after dirty more other (
                λ named. elim ((puts other).0 named) [ inl was ↦ was | inr same ↦ absurd (omega (arith, ap (λ (l : LineId). l.at) same, here)) ],
                λ was. (puts other).1 (inl was),
              )
              (below.decided other on l)
        ];
    others = λ other off. (
      λ named. elim ((puts other).0 named) [ inl was ↦ (below.others other off).0 was | inr same ↦ absurd (off (ap (λ (l : LineId). l.axis) same ∙ along)) ],
      λ was. (puts other).1 (inl ((below.others other off).1 was)),
    );
  }
