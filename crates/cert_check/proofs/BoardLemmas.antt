-- The numbers of a board when a cell is held or branches begin.
use Rattle.std.proofs.Common.{◌≡◌, ℕ, zero, suc, subst, ◌+◌, ◌-◌, ◌*◌, ◌%◌, ◌^◌, ◌<◌, ◌≤◌, ◌==◌, Bool, true, false, cond, eqb-true, eq-eqb, List, ◌∷◌, ◌++◌, length, bit_and, refl, sym, ap, ◌∙◌, arith}
use Rattle.std.specs.List.{filter, range_with_len}
use Rattle.std.specs.Prelude.{IsBitSet, ◌↔◌}
use Rattle.std.specs.Int.{bit_at, bit_not, trailing_zeros, w16}
use Rattle.std.proofs.lemmas.Nat.Bits.{bit_at-trailing_zeros}
use Rattle.line_facts.specs.Masks.{Masks}
use Rattle.line_facts.specs.Branches.{branches, colours_of, held}
use Rattle.line_facts.specs.FactSets.{IsFacts, SameShape}
use Rattle.line_facts.proofs.GridLaws.{at_with_cell, off_with_cell, shape_sym, shape_trans, shape_with_cell}
use Rattle.line_facts.proofs.MaskLaws.{shifted, without_bit}
use Rattle.picture.specs.Picture.{IsPicture}
use Rattle.picture.specs.Rows.{cell_at, row_at, width_of, with_cell, Rows}
use Rattle.picture.proofs.BitLaws.{bit_below, bit_is_set, fewer_le, no_bit, power_has, same_bits, set_bit, unset}
use Rattle.trail.proofs.GridLemmas.{same_grid, set_each}
use Rattle.cert_check.proofs.MaskLemmas.{bits_in_and, bits_of_and}
use Rattle.cert_check.specs.Strays.{stray, strays_of}
use Rattle.cert_check.proofs.StrayLemmas.{above_small, stray_in, strays_change}

-- ---- one cell held

pub record Counts (picture : Rows) (facts : Masks) (row col held strays old new : ℕ) : Type 0 where
  pub takes : old ≤ strays
  pub small : strays ≤ 14400
  pub value : strays - old + new ≡ strays_of picture (with_cell facts row col held)

pub counts : (picture : Rows) (facts : Masks) (row col held strays old new : ℕ) → IsPicture picture → IsFacts facts → SameShape picture facts → row < length facts → col < width_of facts
    → strays ≡ strays_of picture facts → old ≡ stray (cell_at facts row col) (cell_at picture row col) → new ≡ stray held (cell_at picture row col)
    → Counts picture facts row col held strays old new
counts picture facts row col held strays old new is f shape h w e a b =
    let rows = shape.rows in
    let each = shape.each 0 in
    let wide = f.rectangular row h in
    let change = strays_change picture facts row col held (omega arith) (omega arith) h (omega arith) in
    let part = stray_in picture facts row col (omega arith) (omega arith) in
    let fits = is.rows_fit in
    let broad = is.columns_fit in
    let few = above_small picture facts (length picture) broad fits in
    record { takes = omega arith; small = omega arith; value = omega arith }

-- a cell that is held to what it has
pub same_cell : (facts : Masks) (row col held : ℕ) → row < length facts → col < width_of facts → IsFacts facts → cell_at facts row col ≡ held → with_cell facts row col held ≡ facts
same_cell facts row col held h w f e =
    let wide = f.rectangular row h in
    same_grid (with_cell facts row col held) facts (back (shape_with_cell facts row col held))
    (set_each facts row col held h (omega arith) (λ r c y. y ≡ cell_at facts r c) (sym e) (λ r c d. refl))
  where
    back : SameShape facts (with_cell facts row col held) → SameShape (with_cell facts row col held) facts
    back s = record { rows = sym s.rows; each = λ i. sym (s.each i) }

-- a cell that is set again
pub overwritten : (facts : Masks) (row col x y : ℕ) → row < length facts → col < length (row_at facts row) → with_cell (with_cell facts row col x) row col y ≡ with_cell facts row col y
overwritten facts row col x y h w =
    let one = with_cell facts row col x in
    let shape = shape_with_cell facts row col x in
    let rows = shape.rows in
    let wide = shape.each row in
    same_grid (with_cell one row col y) (with_cell facts row col y) (shape_trans (shape_sym (shape_trans shape (shape_with_cell one row col y))) (shape_with_cell facts row col y))
    (set_each one row col y (omega arith) (omega arith) (λ i j v. v ≡ cell_at (with_cell facts row col y) i j) (sym (at_with_cell facts row col y h w))
    (λ i j d. off_with_cell facts row col x i j d ∙ sym (off_with_cell facts row col y i j d)))

-- ---- the branches of a cell, from the highest colour down

abbrev pub from : ℕ → ℕ → ℕ → List ℕ
from mask k n = filter (λ j. bit_at mask j == 1) (range_with_len k n)

tested : (mask k n : ℕ) (b : Bool) → (bit_at mask k == 1) ≡ b → from mask k (suc n) ≡ cond b (k ∷ from mask (k + 1) n) (from mask (k + 1) n)
tested mask k n b e = ap (λ (t : Bool). cond t (k ∷ from mask (k + 1) n) (from mask (k + 1) n)) e

not_set : (mask k : ℕ) → bit_at mask k ≡ 0 → (bit_at mask k == 1) ≡ false
not_set mask k z = by (bit_at mask k == 1) refl
  where
    by : (b : Bool) → (bit_at mask k == 1) ≡ b → b ≡ false
    by true e = absurd (let o = eqb-true (bit_at mask k) 1 e in omega arith)
    by false e = refl

-- the lowest colour, and those above
above : (mask first k n : ℕ) → k ≤ first → bit_at mask first ≡ 1 → ((j : ℕ) → j < first → bit_at mask j ≡ 0) → from mask k (first - k + suc n) ≡ first ∷ from mask (first + 1) n
above mask first k n l one none = climb (first - k) k l refl
  where
    climb : (d i : ℕ) → i ≤ first → first - i ≡ d → from mask i (d + suc n) ≡ first ∷ from mask (first + 1) n
    climb zero i m f =
        let same : i ≡ first = omega arith in
        let count : 0 + suc n ≡ suc n = omega arith in
        ap (from mask i) count ∙ (ap (λ (x : ℕ). from mask x (suc n)) same ∙ tested mask first n true (eq-eqb (bit_at mask first) 1 one))
    climb (suc d) i m f =
        let count : suc d + suc n ≡ suc (d + suc n) = omega arith in
        ap (from mask i) count ∙ (tested mask i (d + suc n) false (not_set mask i (none i (omega arith))) ∙ climb d (i + 1) (omega arith) (omega arith))

-- A cell is being split: the colours of its mask below a number are at hand, and for each other one a branch waits.
pub record IsSplitting (facts : Masks) (behind : List Masks) (row col left n : ℕ) (now : Masks) (waits : List Masks) : Type 0 where
  pub at_hand : now ≡ with_cell facts row col (cell_at now row col)
  pub mask : (k : ℕ) → IsBitSet (cell_at now row col) k ↔ (IsBitSet left k × (k < 16 - n))
  pub waits_are : waits ≡ held facts row col (from left (16 - n) n) ++ behind

some_bit : (x k : ℕ) → IsBitSet x k → 0 < x
some_bit zero k s = absurd (no_bit k s)
some_bit (suc x) k s = omega arith

module _ (facts : Masks) (behind : List Masks) (row col left : ℕ) (is : IsFacts facts) (h : row < length facts) (w : col < width_of facts) (left_is : left ≡ cell_at facts row col) where
  pub splitting_start : IsSplitting facts behind row col left 0 facts behind
  splitting_start = record {
    at_hand = sym (same_cell facts row col (cell_at facts row col) h w is refl);
    mask = λ k. (
      (λ s. (rw left_is s, bit_below (cell_at facts row col) 16 k (is.masks row col) s)),
      (λ p. rw (← left_is) p.0),
    );
    waits_are = refl;
  }

  small : left < 2 ^ 16
  small = rw left_is (is.masks row col)

  module _ (n colour : ℕ) (now : Masks) (waits : List Masks) (l : n < 16) (c : colour ≡ 1 * 2 ^ (15 - n) % 65536) (so_far : IsSplitting facts behind row col left n now waits) where
    power : colour ≡ 2 ^ (15 - n)
    power = c ∙ shifted (15 - n) (omega arith)

    few : colour < 2 ^ 16
    few = omega (arith, c)

    next_is : 15 - n + 1 ≡ 16 - n
    next_is = omega arith

    one_more : from left (16 - (n + 1)) (n + 1) ≡ from left (15 - n) (suc n)
    one_more =
        let a : 16 - (n + 1) ≡ 15 - n = omega arith in
        let b : n + 1 ≡ suc n = omega arith in
        ap (λ (k : ℕ). from left k (n + 1)) a ∙ ap (from left (15 - n)) b

    rest_is : from left (15 - n + 1) n ≡ from left (16 - n) n
    rest_is = ap (λ (k : ℕ). from left k n) next_is

    module _ (some : bit_and left colour ≡ 0 → ⊥) where
      bit : IsBitSet left (15 - n)
      bit = bit_is_set left (15 - n) (set_bit left (15 - n) (λ z. some (ap (bit_and left) power ∙ z)))

      has : IsBitSet (cell_at now row col) (15 - n)
      has = (so_far.mask (15 - n)).1 (bit, omega arith)

      alone : bit_and (cell_at now row col) colour ≡ 2 ^ (15 - n)
      alone = ap (bit_and (cell_at now row col)) power ∙ same_bits (bit_and (cell_at now row col) (2 ^ (15 - n))) (2 ^ (15 - n)) (λ k. (
        (λ s. (bits_of_and (cell_at now row col) (2 ^ (15 - n)) k s).1),
        (λ s. bits_in_and (cell_at now row col) (2 ^ (15 - n)) k (let P : ℕ → Type 0 = λ j. IsBitSet (cell_at now row col) j in subst P (sym ((power_has (15 - n) k).0 s)) has) s),
      ))

      now_small : cell_at now row col < 2 ^ 16
      now_small = let le = fewer_le (cell_at now row col) left (λ k s. ((so_far.mask k).0 s).0) in omega (arith, le, small)

      pub part_of : (lowest : ℕ) → IsBitSet left lowest → lowest < 15 - n → (0 < bit_and (cell_at now row col) colour) × (0 < bit_and (cell_at now row col) (bit_not w16 colour))
      part_of lowest s m = (
        some_bit (bit_and (cell_at now row col) colour) (15 - n) (rw alone ((power_has (15 - n) (15 - n)).1 refl)),
        some_bit (bit_and (cell_at now row col) (bit_not w16 colour)) lowest
            ((without_bit (cell_at now row col) colour lowest now_small few).1 (
              (so_far.mask lowest).1 (s, omega arith),
              (λ t. let e = (power_has (15 - n) lowest).0 (rw power at t) in omega arith),
            )),
      )

      pub splitting_more : (next : Masks) (more : List Masks) → next ≡ with_cell now row col (bit_and (cell_at now row col) (bit_not w16 colour))
          → more ≡ with_cell now row col (bit_and (cell_at now row col) colour) ∷ waits → IsSplitting facts behind row col left (n + 1) next more
      splitting_more next more e f =
          let wide = is.rectangular row h in
          let m = cell_at now row col in
          let rest = bit_and m (bit_not w16 colour) in
          let all : next ≡ with_cell facts row col rest = e ∙ (ap (λ (g : Masks). with_cell g row col rest) so_far.at_hand ∙ overwritten facts row col m rest h (omega arith)) in
          let here : cell_at next row col ≡ rest = ap (λ (g : Masks). cell_at g row col) all ∙ at_with_cell facts row col rest h (omega arith) in
          let one : with_cell now row col (bit_and m colour) ≡ with_cell facts row col (2 ^ (15 - n)) = ap (with_cell now row col) alone
          ∙ (ap (λ (g : Masks). with_cell g row col (2 ^ (15 - n))) so_far.at_hand ∙ overwritten facts row col m (2 ^ (15 - n)) h (omega arith)) in
          let step = tested left (15 - n) n true (eq-eqb (bit_at left (15 - n)) 1 (set_bit left (15 - n) bit)) in
          record {
            at_hand = all ∙ ap (with_cell facts row col) (sym here);
            mask = λ k. (
              (λ s.
                  let b = (without_bit m colour k now_small few).0 (rw here at s) in
                  let p = (so_far.mask k).0 b.0 in
                  let d : k ≡ 15 - n → ⊥ = λ x. b.1 (rw (power, x) ((power_has (15 - n) (15 - n)).1 refl)) in
                  (p.0, omega (arith, p.1, d))),
              (λ p. rw here ((without_bit m colour k now_small few).1 (
                (so_far.mask k).1 (p.0, omega (arith, p.1)),
                (λ t. let x = (power_has (15 - n) k).0 (rw power at t) in omega (arith, p.1)),
              ))),
            );
            waits_are = f
                ∙ (ap (λ (g : Masks). g ∷ waits) one
                ∙ (ap (λ (gs : List Masks). with_cell facts row col (2 ^ (15 - n)) ∷ gs) so_far.waits_are
                ∙ sym (ap (λ (ks : List ℕ). held facts row col ks ++ behind) (one_more ∙ (step ∙ ap (λ (ks : List ℕ). (15 - n) ∷ ks) rest_is)))));
          }

    pub splitting_same : bit_and left colour ≡ 0 → IsSplitting facts behind row col left (n + 1) now waits
    splitting_same none =
        let bit = unset left (15 - n) (λ s. unbit s) in
        let step = tested left (15 - n) n false (not_set left (15 - n) bit) in
        record {
          at_hand = so_far.at_hand;
          mask = λ k. (
            (λ s.
                let p = (so_far.mask k).0 s in
                let d : k ≡ 15 - n → ⊥ = λ x. unbit (let P : ℕ → Type 0 = λ j. IsBitSet left j in subst P x p.0) in
                (p.0, omega (arith, p.1, d))),
            (λ p. (so_far.mask k).1 (p.0, omega (arith, p.1))),
          );
          waits_are = so_far.waits_are ∙ sym (ap (λ (ks : List ℕ). held facts row col ks ++ behind) (one_more ∙ (step ∙ rest_is)));
        }
      where
        unbit : IsBitSet left (15 - n) → ⊥
        unbit s =
            let P : ℕ → Type 0 = λ x. IsBitSet x (15 - n) in
            no_bit (15 - n) (subst P (sym (ap (bit_and left) power) ∙ none) (bits_in_and left (2 ^ (15 - n)) (15 - n) s ((power_has (15 - n) (15 - n)).1 refl)))

  pub splitting_end : (n : ℕ) (now : Masks) (waits : List Masks) → 0 < left → n ≡ 15 - trailing_zeros w16 left → IsSplitting facts behind row col left n now waits
      → branches facts row col left ++ behind ≡ now ∷ waits
  unfolding colours_of
  splitting_end n now waits some e so_far =
      let t = bit_at-trailing_zeros w16 left some small in
      let low = trailing_zeros w16 left in
      let up : low < 16 = t.0 in
      let first : from left 0 (low - 0 + suc n) ≡ low ∷ from left (low + 1) n = above left low 0 n (omega arith) t.1 t.2 in
      let count : low - 0 + suc n ≡ 16 = omega arith in
      let start : low + 1 ≡ 16 - n = omega arith in
      let only : cell_at now row col ≡ 2 ^ low = same_bits (cell_at now row col) (2 ^ low) (λ k. (
        (λ s.
            let p = (so_far.mask k).0 s in
            let below : k < low → ⊥ = λ m. let z = t.2 k m in let o = set_bit left k p.0 in omega arith in
            (power_has low k).1 (omega (arith, p.1, below))),
        (λ s.
            let x = (power_has low k).0 s in
            (so_far.mask k).1 (rw x (bit_is_set left low t.1), omega arith)),
      )) in
      let colours : from left 0 16 ≡ low ∷ from left (16 - n) n = sym (ap (from left 0) count) ∙ (first ∙ ap (λ (k : ℕ). low ∷ from left k n) start) in
      ap (λ (ks : List ℕ). held facts row col ks ++ behind) colours
      ∙ (ap (λ (g : Masks). g ∷ (held facts row col (from left (16 - n) n) ++ behind)) (sym (so_far.at_hand ∙ ap (with_cell facts row col) only))
      ∙ ap (λ (gs : List Masks). now ∷ gs) (sym so_far.waits_are))
