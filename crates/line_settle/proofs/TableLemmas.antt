-- The tables of reached and of finishing states say which colours a line that spells the pattern can have in a cell.
use Rattle.std.proofs.Common.{◌≡◌, ℕ, zero, suc, ◌+◌, ◌<◌, Bool, true, List, [], ◌∷◌, refl, sym, subst, arith, inl, inr, length, get_or, drop, drop-cons, eq-eqb}
use Rattle.std.proofs.lemmas.List.{length-drop}
use Rattle.std.proofs.lemmas.Bool.{eqb-true}
use Rattle.line_settle.specs.Patterns.{allows, finishes, reach_step, reaches, passes}
use Rattle.line_settle.proofs.StateLemmas.{SpellsAt, Step, spells_onward, spells_from, spells_end, end_spells}
use Rattle.line_settle.proofs.StepLemmas.{crosses_finish, finish_crosses, crosses_pass, pass_crosses, step_reaches, reached_by_step}

-- each cell's colour is one of its mask
abbrev pub Keeps : List ℕ → List ℕ → Type 0
Keeps [] [] = Unit {0}
Keeps [] (x ∷ line) = ⊥
Keeps (mask ∷ masks) [] = ⊥
Keeps (mask ∷ masks) (x ∷ line) = (allows mask x ≡ true) × Keeps masks line

step_within : (pattern : List ℕ) (q x r : ℕ) → q < length pattern → Step pattern q x r → r < length pattern
step_within pattern q x r h s = elim s [ inl a ↦ omega arith | inr b ↦ omega arith ]

pub finishes_from : (pattern masks line : List ℕ) (q : ℕ) → q < length pattern → Keeps masks line → SpellsAt pattern q line → finishes pattern masks q ≡ true
finishes_from pattern [] [] q h k s = eq-eqb _ _ (spells_end pattern q h s)
finishes_from pattern [] (x ∷ line) q h k s = absurd k
finishes_from pattern (mask ∷ masks) [] q h k s = absurd k
finishes_from pattern (mask ∷ masks) (x ∷ line) q h k s =
    let o = spells_onward pattern q x line h s in
    crosses_finish pattern mask (finishes pattern masks) q x
    (record { next = o.next; step = o.step; allowed = k.0; reaches_good = finishes_from pattern masks line o.next o.within k.1 o.spells })

-- a line of cells with these masks that spells the pattern on from state q
pub record Ending (pattern masks : List ℕ) (q : ℕ) : Type 0 where
  pub line : List ℕ
  pub keeps : Keeps masks line
  pub spells : SpellsAt pattern q line

pub ending_of : (pattern masks : List ℕ) (q : ℕ) → q < length pattern → finishes pattern masks q ≡ true → Ending pattern masks q
ending_of pattern [] q h e = record { line = []; keeps = tt; spells = end_spells pattern q (eqb-true _ _ e) }
ending_of pattern (mask ∷ masks) q h e =
    let c = finish_crosses pattern mask (finishes pattern masks) q e in
    let n = ending_of pattern masks c.1.next (step_within pattern q c.0 c.1.next h c.1.step) c.1.reaches_good in
    record {
      line = c.0 ∷ n.line;
      keeps = (c.1.allowed, n.keeps);
      spells = spells_from pattern q c.0 c.1.next n.line c.1.step n.spells;
    }

-- such a line from one of the states `start`, which has colour k in cell i
pub record Through (pattern : List ℕ) (start : ℕ → Bool) (masks : List ℕ) (i k : ℕ) : Type 0 where
  pub state : ℕ
  pub within : state < length pattern
  pub starts : start state ≡ true
  pub line : List ℕ
  pub keeps : Keeps masks line
  pub spells : SpellsAt pattern state line
  pub inside : i < length masks
  pub has : get_or line i 0 ≡ k

-- a state from which the line's first cell has colour k
pub record Passing (pattern : List ℕ) (mask : ℕ) (before later : ℕ → Bool) (k : ℕ) : Type 0 where
  pub state : ℕ
  pub within : state < length pattern
  pub passes_there : passes pattern mask before later state k ≡ true

onward_rest : (pattern : List ℕ) (start : ℕ → Bool) (mask : ℕ) (masks : List ℕ) (i k q : ℕ) (line : List ℕ) → q < length pattern → start q ≡ true → Keeps (mask ∷ masks) line → SpellsAt pattern q line
    → suc i < length (mask ∷ masks) → get_or line (suc i) 0 ≡ k → Through pattern (reach_step pattern mask start) masks i k
onward_rest pattern start mask masks i k q [] h st kp s n g = absurd kp
onward_rest pattern start mask masks i k q (x ∷ line) h st kp s n g =
    let o = spells_onward pattern q x line h s in
    record {
      state = o.next;
      within = o.within;
      starts = step_reaches pattern mask start q x o.next st kp.0 o.step;
      line = line;
      keeps = kp.1;
      spells = o.spells;
      inside = omega arith;
      has = g;
    }

pub through_rest : (pattern : List ℕ) (start : ℕ → Bool) (mask : ℕ) (masks : List ℕ) (i k : ℕ) → Through pattern start (mask ∷ masks) (suc i) k
    → Through pattern (reach_step pattern mask start) masks i k
through_rest pattern start mask masks i k t =
    onward_rest pattern start mask masks i k t.state t.line t.within t.starts t.keeps t.spells t.inside t.has

pub rest_through : (pattern : List ℕ) (start : ℕ → Bool) (mask : ℕ) (masks : List ℕ) (i k : ℕ) → Through pattern (reach_step pattern mask start) masks i k
    → Through pattern start (mask ∷ masks) (suc i) k
rest_through pattern start mask masks i k t =
    let r = reached_by_step pattern mask start t.state t.within t.starts in
    record {
      state = r.from;
      within = elim r.step [ inl a ↦ (let w = t.within in omega arith) | inr b ↦ (let w = t.within in omega arith) ];
      starts = r.was;
      line = r.colour ∷ t.line;
      keeps = (r.allowed, t.keeps);
      spells = spells_from pattern r.from r.colour t.state t.line r.step t.spells;
      inside = (let w = t.inside in omega arith);
      has = t.has;
    }

onward_first : (pattern : List ℕ) (start : ℕ → Bool) (mask : ℕ) (masks : List ℕ) (k q : ℕ) (line : List ℕ) → q < length pattern → start q ≡ true → Keeps (mask ∷ masks) line → SpellsAt pattern q line
    → get_or line 0 0 ≡ k → Passing pattern mask start (finishes pattern masks) k
onward_first pattern start mask masks k q [] h st kp s g = absurd kp
onward_first pattern start mask masks k q (x ∷ line) h st kp s g =
    let o = spells_onward pattern q x line h s in
    let P : ℕ → Type 0 = λ c. passes pattern mask start (finishes pattern masks) q c ≡ true in
    record {
      state = q;
      within = h;
      passes_there = subst P g (crosses_pass pattern mask start (finishes pattern masks) q x st
          (record { next = o.next; step = o.step; allowed = kp.0; reaches_good = finishes_from pattern masks line o.next o.within kp.1 o.spells }));
    }

pub through_passing : (pattern : List ℕ) (start : ℕ → Bool) (mask : ℕ) (masks : List ℕ) (k : ℕ) → Through pattern start (mask ∷ masks) 0 k → Passing pattern mask start (finishes pattern masks) k
through_passing pattern start mask masks k t = onward_first pattern start mask masks k t.state t.line t.within t.starts t.keeps t.spells t.has

pub passing_through : (pattern : List ℕ) (start : ℕ → Bool) (mask : ℕ) (masks : List ℕ) (k : ℕ) → Passing pattern mask start (finishes pattern masks) k → Through pattern start (mask ∷ masks) 0 k
passing_through pattern start mask masks k p =
    let c = pass_crosses pattern mask start (finishes pattern masks) p.state k p.passes_there in
    let n = ending_of pattern masks c.1.next (step_within pattern p.state k c.1.next p.within c.1.step) c.1.reaches_good in
    record {
      state = p.state;
      within = p.within;
      starts = c.0;
      line = k ∷ n.line;
      keeps = (c.1.allowed, n.keeps);
      spells = spells_from pattern p.state k c.1.next n.line c.1.step n.spells;
      inside = omega arith;
      has = refl;
    }

rest_of_masks : (masks : List ℕ) (j : ℕ) → j < length masks → drop j masks ≡ get_or masks j 0 ∷ drop (suc j) masks
rest_of_masks masks j h = drop-cons masks j 0 h

inside_rest : {pattern : List ℕ} {start : ℕ → Bool} (masks : List ℕ) (j i : ℕ) {k : ℕ} → Through pattern start (drop j masks) i k → j + i < length masks
inside_rest masks j i t = let w = t.inside in omega (arith, length-drop j masks)

-- of the cells before, only the states that they reach matter for the cells to come
to_cell : (pattern masks : List ℕ) (i j n k : ℕ) → j + i ≡ n → Through pattern (reaches pattern masks j) (drop j masks) i k → Through pattern (reaches pattern masks n) (drop n masks) 0 k
to_cell pattern masks zero j n k e t =
    let P : ℕ → Type 0 = λ m. Through pattern (reaches pattern masks m) (drop m masks) 0 k in
    subst P (let h : j ≡ n = omega arith in h) t
to_cell pattern masks (suc i) j n k e t =
    let h : j < length masks = (let w = inside_rest masks j (suc i) t in omega arith) in
    let P : List ℕ → Type 0 = λ ms. Through pattern (reaches pattern masks j) ms (suc i) k in
    to_cell pattern masks i (suc j) n k (omega arith)
    (through_rest pattern (reaches pattern masks j) (get_or masks j 0) (drop (suc j) masks) i k (subst P (rest_of_masks masks j h) t))

from_cell : (pattern masks : List ℕ) (i j n k : ℕ) → j + i ≡ n → Through pattern (reaches pattern masks n) (drop n masks) 0 k → Through pattern (reaches pattern masks j) (drop j masks) i k
from_cell pattern masks zero j n k e t =
    let P : ℕ → Type 0 = λ m. Through pattern (reaches pattern masks m) (drop m masks) 0 k in
    subst P (let h : n ≡ j = omega arith in h) t
from_cell pattern masks (suc i) j n k e t =
    let h : j < length masks = (let w = inside_rest masks n 0 t in omega arith) in
    let P : List ℕ → Type 0 = λ ms. Through pattern (reaches pattern masks j) ms (suc i) k in
    subst P (sym (rest_of_masks masks j h))
    (rest_through pattern (reaches pattern masks j) (get_or masks j 0) (drop (suc j) masks) i k
    (from_cell pattern masks i (suc j) n k (omega arith) t))

-- a line that spells the pattern from its first state
abbrev pub Spelled : List ℕ → List ℕ → ℕ → ℕ → Type 0
Spelled pattern masks i k = Through pattern (reaches pattern masks 0) masks i k

-- what the tables say of colour k in cell i
abbrev pub Shown : List ℕ → List ℕ → ℕ → ℕ → Type 0
Shown pattern masks i k = Passing pattern (get_or masks i 0) (reaches pattern masks i) (finishes pattern (drop (suc i) masks)) k

pub shown_spelled : (pattern masks : List ℕ) (i k : ℕ) → i < length masks → Shown pattern masks i k → Spelled pattern masks i k
shown_spelled pattern masks i k h p =
    let P : List ℕ → Type 0 = λ ms. Through pattern (reaches pattern masks i) ms 0 k in
    from_cell pattern masks i 0 i k (omega arith)
    (subst P (sym (rest_of_masks masks i h)) (passing_through pattern (reaches pattern masks i) (get_or masks i 0) (drop (suc i) masks) k p))

pub spelled_shown : (pattern masks : List ℕ) (i k : ℕ) → Spelled pattern masks i k → Shown pattern masks i k
spelled_shown pattern masks i k t =
    let P : List ℕ → Type 0 = λ ms. Through pattern (reaches pattern masks i) ms 0 k in
    through_passing pattern (reaches pattern masks i) (get_or masks i 0) (drop (suc i) masks) k
    (subst P (rest_of_masks masks i t.inside) (to_cell pattern masks i 0 i k (omega arith) t))
