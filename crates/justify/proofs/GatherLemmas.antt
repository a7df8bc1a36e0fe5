-- The cells in which the masks of a line have colours, gathered one after another.
use Rattle.std.proofs.Common.{◌≡◌, ℕ, ◌+◌, ◌-◌, ◌/◌, ◌%◌, ◌<◌, ◌≤◌, ◌↔◌, ◌^◌, List, length, take, sym, ap, ◌∙◌, subst, arith, inl, inr, get_or, set, get_or-set_same, get_or-set_other, Bool, false}
use Rattle.std.proofs.Common.{cond, not, eqb, eq-eqb, ne_eqb, map, replicate, w16, length-take}
use Rattle.std.specs.Prelude.{IsBitSet}
use Rattle.std.specs.Int.{bit_at}
use Rattle.std.specs.Simd.Lanes.{zip2, chunk, top, mask_l}
use Rattle.std.proofs.lemmas.Bool.{cases_eq, cases_lt}
use Rattle.std.proofs.lemmas.List.{get_or_past, get_or-take, get_or-map, length-map}
use Rattle.std.proofs.lemmas.Simd.{length-chunk, get_or-chunk, bitmask_splat, bit_mask_l}
use Rattle.std.proofs.lemmas.Nat.{pow-add}
use Rattle.std.proofs.lemmas.Nat.Bits.{bit_at-zero}
use Rattle.std.proofs.Math.Nat.{div-div-eq-div-mul}
use Rattle.justify.specs.declared.premise.Premise.{Premise}
use Rattle.justify.specs.GatheredCells.{Gathered, AreColoured}
use Rattle.justify.specs.Premises.{premise_at, Gathers}
use Rattle.picture.proofs.BitLaws.{no_bit}

abbrev pub premise : ℕ → ℕ → Premise
premise at colours = record { at = at; colours = colours }

module _ (masks : List ℕ) (n : ℕ) (found : List Premise) (count : ℕ) (new : Premise) (g : Gathered masks n found count) where
  kept : (m : ℕ) → m < count → premise_at (set found count new) m ≡ premise_at found m
  kept m l = get_or-set_other found count m new (premise 0 0) (omega arith)

  pub gathered_take : count < length found → new.at ≡ n → new.colours ≡ get_or masks n 0 → 0 < new.colours → Gathered masks (n + 1) (set found count new) (count + 1)
  gathered_take room at colours some =
      let here : premise_at (set found count new) count ≡ new = get_or-set_same found count new (premise 0 0) room in
      let by : (P : Premise → Type 0) → ((m : ℕ) → m < count → P (premise_at found m)) → P new → (m : ℕ) → m < count + 1 → P (premise_at (set found count new) m) =
      λ P old now m l. elim (cases_eq m count) [
        | inl e ↦ (let Q : ℕ → Type 0 = λ j. P (premise_at (set found count new) j) in subst Q (sym e) (subst P (sym here) now))
        | inr other ↦ (let s : m < count = omega arith in subst P (sym (kept m s)) (old m s))
      ] in
      record {
        within = (let w = g.within in omega arith);
        before = by (λ p. p.at < n + 1) (λ m l. let b = g.before m l in omega arith) (omega arith);
        colours = by (λ p. p.colours ≡ get_or masks p.at 0) g.colours (colours ∙ ap (λ j. get_or masks j 0) (sym at));
        some = by (λ p. 0 < p.colours) g.some some;
        rising = λ m p a b.
            let s : m < count = omega arith in
            subst (λ (x : Premise). x.at < (premise_at (set found count new) p).at) (sym (kept m s)) (elim (cases_eq p count) [
              | inl e ↦
                  subst (λ (j : ℕ). (premise_at found m).at < (premise_at (set found count new) j).at) (sym e)
                  (subst (λ (x : Premise). (premise_at found m).at < x.at) (sym here) (let b = g.before m s in omega arith))
              | inr other ↦
                  let t : p < count = omega arith in
                  subst (λ (x : Premise). (premise_at found m).at < x.at) (sym (kept p t)) (g.rising m p a t)
            ]);
        each = λ i l s. elim (cases_eq i n) [
          | inl e ↦ (count, omega arith, ap (λ (p : Premise). p.at) here ∙ (at ∙ sym e))
          | inr other ↦
              let w = g.each i (omega arith) s in
              (w.0, (let b = w.1 in omega arith), ap (λ (p : Premise). p.at) (kept w.0 w.1) ∙ w.2)
        ];
      }

pub gathered_all : (masks : List ℕ) (n : ℕ) (found : List Premise) (count : ℕ) → length masks ≤ n → count ≤ length found → ((i : ℕ) → get_or masks i 0 < 2 ^ 16) → Gathered masks n found count
    → Gathers masks (take count found)
gathered_all masks n found count all room small g =
    let front : (m : ℕ) → m < count → premise_at (take count found) m ≡ premise_at found m = λ m l. get_or-take count found m (premise 0 0) l in
    let len : length (take count found) ≡ count = grind (arith, length-take) in
    let by : (P : Premise → Type 0) → ((m : ℕ) → m < count → P (premise_at found m)) → (m : ℕ) → m < length (take count found) → P (premise_at (take count found) m) =
    λ P old m l. (let s : m < count = omega arith in subst P (sym (front m s)) (old m s)) in
    record {
      are = record {
        rising = λ m p a b.
            let t : p < count = omega arith in
            let s : m < count = omega arith in
            subst (λ (x : Premise). x.at < (premise_at (take count found) p).at) (sym (front m s)) (subst (λ (x : Premise). (premise_at found m).at < x.at) (sym (front p t)) (g.rising m p a t));
        some = by (λ p. 0 < p.colours) g.some;
        small = λ m. elim (cases_lt m count) [
          | inl l ↦
              subst (λ (p : Premise). p.colours < 2 ^ 16) (sym (front m l)) (subst (λ (c : ℕ). c < 2 ^ 16) (sym (g.colours m l)) (small (premise_at found m).at))
          | inr past ↦
              subst (λ (p : Premise). p.colours < 2 ^ 16) (sym (get_or_past (take count found) m (premise 0 0) (omega arith))) (omega arith)
        ];
      };
      says = λ i k. (
        (λ s.
            let l : s.which < count = (let w = s.within in omega arith) in
            let e = front s.which l in
            let at : (premise_at found s.which).at ≡ i = ap (λ (p : Premise). p.at) (sym e) ∙ s.here in
            subst (λ (c : ℕ). IsBitSet c k) (ap (λ (p : Premise). p.colours) e ∙ (g.colours s.which l ∙ ap (λ j. get_or masks j 0) at)) s.colour),
        (λ bit.
            let some : 0 < get_or masks i 0 = (elim (cases_eq (get_or masks i 0) 0) [
              | inl e ↦ absurd (no_bit k (let P : ℕ → Type 0 = λ c. IsBitSet c k in subst P e bit))
              | inr other ↦ omega arith
            ]) in
            let in_line : i < n = (elim (cases_lt i (length masks)) [
              | inl l ↦ omega arith
              | inr past ↦ absurd (let z = get_or_past masks i 0 past in omega arith)
            ]) in
            let w = g.each i in_line some in
            record {
              which = w.0;
              within = (let l = w.1 in omega arith);
              here = ap (λ (p : Premise). p.at) (front w.0 w.1) ∙ w.2;
              colour = subst (λ (c : ℕ). IsBitSet c k) (sym (ap (λ (p : Premise). p.colours) (front w.0 w.1) ∙ (g.colours w.0 w.1 ∙ ap (λ j. get_or masks j 0) w.2))) bit;
            }),
      );
    }

-- over cells without colours, nothing is gathered
pub gathered_over : (masks : List ℕ) (n m : ℕ) (found : List Premise) (count : ℕ) → n ≤ m → ((i : ℕ) → n ≤ i → i < m → get_or masks i 0 ≡ 0) → Gathered masks n found count
    → Gathered masks m found count
gathered_over masks n m found count more none g = grind arith

-- ---- cells found by bits

-- the bits of a number shifted down
bit_down : (s n j : ℕ) → bit_at (n / 2 ^ s) j ≡ bit_at n (s + j)
bit_down s n j = ap (λ m. m % 2) (div-div-eq-div-mul n (2 ^ s) (2 ^ j) ∙ ap (λ p. n / p) (sym (pow-add 2 s j)))

module _ (masks : List ℕ) (place end bits : ℕ) (are : AreColoured masks place end bits) where
  -- a cell whose bit is not set has no colours
  blank : (i : ℕ) → place ≤ i → i < end → bit_at bits (i - place) ≡ 0 → get_or masks i 0 ≡ 0
  blank i past l none = grind (arith, get_or)

  -- without bits there are no colours up to the end
  pub none_coloured : bits ≡ 0 → (i : ℕ) → place ≤ i → i < end → get_or masks i 0 ≡ 0
  none_coloured none i past l = blank i past l (ap (λ b. bit_at b (i - place)) none ∙ bit_at-zero (i - place))

  -- up to the lowest bit there are no colours
  pub none_below : (s : ℕ) → ((j : ℕ) → j < s → bit_at bits j ≡ 0) → bit_at bits s ≡ 1 → (i : ℕ) → place ≤ i → i < place + s → get_or masks i 0 ≡ 0
  none_below s low one i past l = let inside = ((are.each s).0 one).0 in blank i past (omega arith) (low (i - place) (omega arith))

  -- the bits after one are those of the cells after its cell
  pub coloured_behind : (s : ℕ) → AreColoured masks (place + s + 1) end (bits / 2 ^ s / 2)
  coloured_behind s = record {
    each = λ j.
        let e : bit_at (bits / 2 ^ s / 2) j ≡ bit_at bits (s + (1 + j)) = bit_down 1 (bits / 2 ^ s) j ∙ bit_down s bits (1 + j) in
        let at : place + (s + (1 + j)) ≡ place + s + 1 + j = omega arith in
        rw e (subst (λ (n : ℕ). (bit_at bits (s + (1 + j)) ≡ 1) ↔ ((n < end) × (0 < get_or masks n 0))) at (are.each (s + (1 + j))));
  }

abbrev some : ℕ → Bool
some mask = not (eqb mask 0)

told_some : (mask bit : ℕ) → bit ≡ cond (some mask) 1 0 → (bit ≡ 1) ↔ (0 < mask)
told_some mask bit told = grind (arith, cond, eq-eqb, ne_eqb, not)

-- what the comparison of eight masks with none gives
pub eight_coloured : (masks : List ℕ) (first : ℕ) → first + 8 ≤ length masks
    → AreColoured masks first (first + 8) (mask_l (map (top 15) (zip2 (λ (a b : ℕ). cond (not (eqb a b)) 65535 0) (chunk first 8 masks) (replicate 8 0))) % 2 ^ 64)
eight_coloured masks first room =
    let eight = chunk first 8 masks in
    let len : length eight ≡ 8 = length-chunk first 8 masks room in
    let is = bitmask_splat w16 (λ (a b : ℕ). not (eqb a b)) eight 8 0 len (omega arith) in
    record {
      each = λ j.
          let bit : bit_at (mask_l (map (top 15) (zip2 (λ (a b : ℕ). cond (not (eqb a b)) 65535 0) eight (replicate 8 0))) % 2 ^ 64) j ≡ cond (get_or (map some eight) j false) 1 0 =
          ap (λ m. bit_at m j) is ∙ bit_mask_l (map some eight) j in
          elim (cases_lt j 8) [
            | inl l ↦
                let at : get_or (map some eight) j false ≡ some (get_or masks (first + j) 0) = get_or-map some eight j 0 false (omega arith) ∙ ap some (get_or-chunk first 8 masks j 0 l) in
                let told = told_some (get_or masks (first + j) 0) _ (bit ∙ ap (λ b. cond b 1 0) at) in
                ((λ one. (let i : first + j < first + 8 = omega arith in i, told.0 one)), (λ p. told.1 p.1))
            | inr past ↦
                let at : get_or (map some eight) j false ≡ false = get_or_past (map some eight) j false (let m = length-map eight some in omega arith) in
                let told : bit_at (mask_l (map (top 15) (zip2 (λ (a b : ℕ). cond (not (eqb a b)) 65535 0) eight (replicate 8 0))) % 2 ^ 64) j ≡ 0 = bit ∙ ap (λ b. cond b 1 0) at in
                ((λ one. absurd (let y : 0 ≡ 1 = sym told ∙ one in omega arith)), (λ p. absurd (let q : first + j < first + 8 = p.0 in omega arith)))
          ];
    }
