-- The new step of a line, from what an evaluation left and what was found to be needed.
use Rattle.std.proofs.Common.{◌≡◌, ℕ, ◌<◌, List, length, refl, sym, ap, ◌∙◌, subst, arith, inl, inr, get_or, set, get_or-set_same, get_or-set_other}
use Rattle.std.specs.Prelude.{IsBitSet}
use Rattle.std.specs.List.{All}
use Rattle.std.proofs.lemmas.List.Elements.{All-from_get_or}
use Rattle.std.proofs.lemmas.Bool.{cases_eq, cases_lt}
use Rattle.std.proofs.lemmas.List.{get_or_past, length-set}
use Rattle.picture.specs.declared.line_id.LineId.{LineId}
use Rattle.clues.specs.declared.block.Block.{Block}
use Rattle.line_facts.specs.declared.line_engine.Outcome.TheVariants.{Narrowed}
use Rattle.line_facts.specs.Fits.{CanHave}
use Rattle.line_facts.specs.NarrowedLine.{Narrows}
use Rattle.line_settle.specs.LeftOut.{ForcesAll, LeavesOut}
use Rattle.justify.specs.declared.premise.Premise.{Premise}
use Rattle.justify.specs.Premises.{premise_at, Gathers, IsComplement, KeepsLost, Mentions, Says, SaysBut}
use Rattle.justify.specs.Exclusions.{CanHaveWithout}
use Rattle.justify.specs.Needs.{AreNeeded, DrawsLess}
use Rattle.justify.specs.NewSteps.{DrawsNothing, IsNewStep}
use Rattle.picture.proofs.BitLaws.{no_bit, bit_below, same_bits}
use Rattle.line_facts.proofs.MaskLaws.{full_has}
use Rattle.justify.proofs.SaidLemmas.{bit_or_not}
use Rattle.justify.proofs.LineMaskLemmas.{some_bit}
use Rattle.justify.proofs.ForcingLemmas.{have_without, without_have}

-- a premise that is gathered says some colour
pub says_some : (masks : List ℕ) (premises : List Premise) (i : ℕ) → Gathers masks premises → Mentions premises i → (k : ℕ) × Says premises i k
says_some masks premises i g m =
    let b = some_bit (premise_at premises m.which).colours (g.are.some m.which m.within) (g.are.small m.which) in
    (b.0, record { which = m.which; within = m.within; here = m.here; colour = b.1 })

pub inside_masks : (masks : List ℕ) (premises : List Premise) (i : ℕ) → Gathers masks premises → Mentions premises i → i < length masks
inside_masks masks premises i g m =
    let s = says_some masks premises i g m in
    elim (cases_lt i (length masks)) [
      | inl l ↦ l
      | inr past ↦ (let P : ℕ → Type 0 = λ c. IsBitSet c s.0 in absurd (no_bit s.0 (subst P (get_or_past masks i 0 past) ((g.says i s.0).0 s.1))))
    ]

-- ---- what is needed

module _ (clue : List Block) (drawn old new others : List ℕ) (l : LeavesOut clue drawn old new) (x : IsComplement new others) (premises : List Premise) (g : Gathers others premises) where
  same : length others ≡ length old
  same = x.same_length ∙ l.same_length

  in_line : (i : ℕ) → Mentions premises i → i < length old
  in_line i m = let b = inside_masks others premises i g m in let e = same in omega arith

  said_is : (i k : ℕ) → i < length old → Says premises i k → (k < 16) × (IsBitSet (get_or new i 0) k → ⊥)
  said_is i k b s = (x.colours i k (let e = l.same_length in omega arith)).0 ((g.says i k).0 s)

  is_said : (i k : ℕ) → i < length old → k < 16 → (IsBitSet (get_or new i 0) k → ⊥) → Says premises i k
  is_said i k b c n = (g.says i k).1 ((x.colours i k (let e = l.same_length in omega arith)).1 (c, n))

  small_new : (i k : ℕ) → IsBitSet (get_or new i 0) k → k < 16
  small_new i k s = bit_below (get_or new i 0) 16 k (x.small i) s

  -- a cell with a premise has its old mask
  old_mask : (i : ℕ) → Mentions premises i → get_or new i 0 ≡ get_or old i 0
  old_mask i m = elim (l.each i (in_line i m)) [
    | inl e ↦ e
    | inr e ↦
        let s = says_some others premises i g m in
        let is = said_is i s.0 (in_line i m) s.1 in
        absurd (is.1 (let P : ℕ → Type 0 = λ c. IsBitSet c s.0 in subst P (sym e) (full_has s.0 is.0)))
  ]

  not_all : (i : ℕ) → Mentions premises i → get_or new i 0 ≡ 65535 → ⊥
  not_all i m e =
      let s = says_some others premises i g m in
      let is = said_is i s.0 (in_line i m) s.1 in
      is.1 (let P : ℕ → Type 0 = λ c. IsBitSet c s.0 in subst P (sym e) (full_has s.0 is.0))

  whole_said : (i k : ℕ) → (m : Mentions premises i) → Says premises i k → (k < 16) × (IsBitSet (get_or old i 0) k → ⊥)
  whole_said i k m s =
      let is = said_is i k (in_line i m) s in
      (is.0, λ b. is.1 (subst (λ (c : ℕ). IsBitSet c k) (sym (old_mask i m)) b))

  whole_says : (i k : ℕ) → (m : Mentions premises i) → k < 16 → (IsBitSet (get_or old i 0) k → ⊥) → Says premises i k
  whole_says i k m c n = let P : ℕ → Type 0 = λ c. IsBitSet c k in is_said i k (in_line i m) c (λ b. n (subst P (old_mask i m) b))

  all_forced : (i k : ℕ) → IsBitSet (get_or drawn i 0) k → CanHaveWithout clue (length old) (Says premises) i k → ⊥
  all_forced i k d c = l.forced i k d
      (without_have clue new (length old) (Says premises) l.same_length (λ j h b small none. elim (bit_or_not (get_or new j 0) h) [ inl s ↦ s | inr n ↦ absurd (none (is_said j h b small n)) ]) i k c)

  less_drawn : (cell : ℕ) → Mentions premises cell → DrawsLess clue (length old) drawn premises cell
  less_drawn cell m =
      let in_cell = in_line cell m in
      let misses = l.needed cell in_cell (not_all cell m) in
      let len : length (set new cell 65535) ≡ length old = length-set new cell 65535 ∙ l.same_length in
      let avoids : (i k : ℕ) → i < length old → IsBitSet (get_or (set new cell 65535) i 0) k → (k < 16) × (SaysBut premises cell i k → ⊥) =
      λ i k b s. elim (cases_eq i cell) [
        | inl e ↦
            let full : get_or (set new cell 65535) i 0 ≡ 65535 = ap (λ j. get_or (set new cell 65535) j 0) e ∙ get_or-set_same new cell 65535 0 (let z = l.same_length in omega arith) in
            (bit_below 65535 16 k (omega arith) (subst (λ (c : ℕ). IsBitSet c k) full s), λ says. says.1 e)
        | inr other ↦
            let t = subst (λ (c : ℕ). IsBitSet c k) (get_or-set_other new cell i 65535 0 other) s in
            (small_new i k t, λ says. (said_is i k b says.0).1 t)
      ] in
      record {
        place = misses.place;
        colour = misses.colour;
        is_drawn = misses.is_drawn;
        can_have = have_without clue (set new cell 65535) (length old) (SaysBut premises cell) len avoids misses.place misses.colour misses.has;
      }

  pub are_needed : AreNeeded clue old drawn premises
  are_needed = record {
    are = g.are;
    inside = in_line;
    whole = λ i k m. (whole_said i k m, λ p. whole_says i k m p.0 p.1);
    forced = all_forced;
    trimmed = less_drawn;
  }

-- ---- what an evaluation left

-- masks that are not all empty give a premise
some_said : (masks : List ℕ) (premises : List Premise) → Gathers masks premises → (All (λ (mask : ℕ). mask ≡ 0) masks → ⊥) → length premises ≡ 0 → ⊥
some_said masks premises g some none = some (All-from_get_or (λ (mask : ℕ). mask ≡ 0) masks 0 (λ i l.
    same_bits (get_or masks i 0) 0 (λ k. (
      (λ s. let w = ((g.says i k).1 s).within in absurd (omega arith)),
      (λ z. absurd (no_bit k z)),
    ))))

-- where nothing is lost, nothing is drawn
pub draws_nothing : (clue : List Block) (left out drawn : List ℕ) → Narrows clue left Narrowed out → KeepsLost left out drawn → All (λ (mask : ℕ). mask ≡ 0) drawn → DrawsNothing clue left
draws_nothing clue left out drawn n x none = grind (arith, bit_or_not, get_or, get_or_past, length, no_bit)

module _ (clue : List Block) (left out drawn : List ℕ) (lost : List Premise) (n : Narrows clue left Narrowed out) (x : KeepsLost left out drawn) (g : Gathers drawn lost) where
  lost_is : (i k : ℕ) → IsBitSet (get_or drawn i 0) k → IsBitSet (get_or left i 0) k × (CanHave clue left i k → ⊥)
  lost_is i k d = grind arith

  kept_is : (i k : ℕ) → IsBitSet (get_or left i 0) k → (Says lost i k → ⊥) → CanHave clue left i k
  kept_is i k s none = grind (arith, bit_or_not, get_or)

  pub forces_lost : ForcesAll clue left drawn
  forces_lost i k d = (lost_is i k d).1

  pub new_step : (line : LineId) (premises : List Premise) → AreNeeded clue left drawn premises → (All (λ (mask : ℕ). mask ≡ 0) drawn → ⊥)
      → IsNewStep clue line left (record { line = line; premises = premises; drawn = lost })
  new_step line premises a some = record {
    of_line = refl;
    draws = λ i k s. lost_is i k ((g.says i k).0 s);
    keeps = kept_is;
    something = (let empty = some_said drawn lost g some in omega (arith, empty));
    drawn_inside = λ i m. (let l = inside_masks drawn lost i g m in let e = x.same_length in let f = n.same_length in omega arith);
    inside = a.inside;
    whole = a.whole;
    forced = λ i k s. a.forced i k ((g.says i k).0 s);
    trimmed = λ cell m.
        let t = a.trimmed cell m in
        record { place = t.place; colour = t.colour; is_drawn = (g.says t.place t.colour).1 t.is_drawn; can_have = t.can_have };
    fits = n.fits.0 refl;
  }
