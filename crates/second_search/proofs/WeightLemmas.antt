-- The weight of facts when they are narrowed, split and searched.
use Rattle.std.proofs.Common.{◌≡◌, ℕ, zero, suc, ◌+◌, ◌-◌, ◌*◌, ◌^◌, ◌<◌, ◌≤◌, ◌==◌, true, List, [], ◌∷◌, ◌++◌, length, get_or, set, refl, sym, ap, subst, arith, inl, inr, eqb-true}
use Rattle.std.specs.Prelude.{IsBitSet}
use Rattle.std.specs.List.{All, filter, range_with_len}
use Rattle.std.specs.Int.{bit_at}
use Rattle.std.proofs.lemmas.Bool.{cases_eq}
use Rattle.std.proofs.lemmas.Nat.{pow-add}
use Rattle.std.proofs.lemmas.List.Elements.{filter_passes}
use Rattle.std.proofs.lemmas.List.FromFn.{length-range_with_len}
use Rattle.std.proofs.lemmas.List.Sums.{count_by-le-length, length-filter}
use Rattle.std.proofs.Math.Nat.{mul-le-mul_right}
use Rattle.std.proofs.Math.Pow.{pow_mono, pow_pos}
use Rattle.picture.specs.Rows.{row_at, cell_at, with_cell}
use Rattle.line_facts.specs.Masks.{IsOnly, Masks}
use Rattle.line_facts.specs.FactSets.{IsWithin}
pub use Rattle.second_search.specs.Weights.{load, loads, row_weight, total, weight}
use Rattle.picture.proofs.BitLaws.{fewer_le, bit_is_set, power_has}
use Rattle.line_facts.specs.Branches.{branches, colours_of, held}

total_append : {X : Type 0} (f : X → ℕ) (xs ys : List X) → total f (xs ++ ys) ≡ total f xs + total f ys
total_append f [] ys = omega arith
total_append f (x ∷ xs) ys = let rest = total_append f xs ys in omega arith

pub total_set : {X : Type 0} (f : X → ℕ) (xs : List X) (i : ℕ) (y d : X) → i < length xs → total f (set xs i y) + f (get_or xs i d) ≡ total f xs + f y
total_set f [] i y d l = absurd (omega arith)
total_set f (x ∷ xs) zero y d l = omega arith
total_set f (x ∷ xs) (suc i) y d l = let rest = total_set f xs i y d (omega arith) in omega arith

-- ---- fewer colours weigh less

pub total_le : {X : Type 0} (f : X → ℕ) (d : X) (a b : List X) → length a ≡ length b → ((i : ℕ) → f (get_or a i d) ≤ f (get_or b i d)) → total f a ≤ total f b
total_le f d [] [] e h = omega arith
total_le f d [] (y ∷ ys) e h = omega arith
total_le f d (x ∷ xs) [] e h = absurd (omega arith)
total_le f d (x ∷ xs) (y ∷ ys) e h = let first = h 0 in let rest = total_le f d xs ys (omega arith) (λ i. h (suc i)) in omega arith

pub weight_within : (few many : Masks) → IsWithin few many → weight many ≤ weight few
unfolding weight row_weight
weight_within few many w = total_le row_weight [] many few (sym w.same_shape.rows)
    (λ i. total_le (λ (x : ℕ). x) 0 (row_at many i) (row_at few i) (sym (w.same_shape.each i)) (λ j. fewer_le (cell_at many i j) (cell_at few i j) (λ k s. w.leaves i j k s)))

-- ---- a cell held

pub weight_with_cell : (facts : Masks) (i j x : ℕ) → i < length facts → j < length (row_at facts i) → weight (with_cell facts i j x) + cell_at facts i j ≡ weight facts + x
unfolding weight row_weight
weight_with_cell facts i j x h l =
    let rows = total_set row_weight facts i (set (row_at facts i) j x) [] h in
    let cells = total_set (λ (y : ℕ). y) (row_at facts i) j x 0 l in
    omega arith

-- a colour of a mask that is not its only one weighs less than the mask
power_below : (mask k : ℕ) → IsBitSet mask k → (IsOnly mask k → ⊥) → 2 ^ k < mask
power_below mask k s n =
    let le = fewer_le (2 ^ k) mask (λ j t. let P : ℕ → Type 0 = λ i. IsBitSet mask i in subst P (sym ((power_has k j).0 t)) s) in
    elim (cases_eq (2 ^ k) mask) [
      | inl e ↦ absurd (n (let P : ℕ → Type 0 = λ m. IsOnly m k in subst P e (power_has k)))
      | inr d ↦ omega arith
    ]

abbrev Lighter : ℕ → ℕ → Type 0
Lighter mask k = 2 ^ k < mask

all_lighter : (mask : ℕ) (ks : List ℕ) → ((k : ℕ) → IsOnly mask k → ⊥) → All (λ k. (bit_at mask k == 1) ≡ true) ks → All (Lighter mask) ks
all_lighter mask ks n h = λ i d l. power_below mask (get_or ks i d) (bit_is_set mask (get_or ks i d) (eqb-true (bit_at mask (get_or ks i d)) 1 (h i d l))) (n (get_or ks i d))

held_weight : (facts : Masks) (row col w k : ℕ) → row < length facts → col < length (row_at facts row) → weight facts ≤ w + 1 → 2 ^ k < cell_at facts row col
    → 2 ^ (5 * weight (with_cell facts row col (2 ^ k))) ≤ 2 ^ (5 * w)
held_weight facts row col w k h l e a =
    let held_to = weight_with_cell facts row col (2 ^ k) h l in
    pow_mono {i = 5 * weight (with_cell facts row col (2 ^ k))} {j = 5 * w} (omega arith)

held_load : (facts : Masks) (row col w : ℕ) → row < length facts → col < length (row_at facts row) → weight facts ≤ w + 1 → (ks : List ℕ) → All (Lighter (cell_at facts row col)) ks
    → load (held facts row col ks) ≤ length ks * 2 ^ (5 * w)
unfolding load
held_load facts row col w h l e [] a = omega arith
held_load facts row col w h l e (k ∷ ks) a =
    let first = held_weight facts row col w k h l e (a 0 0 (omega arith)) in
    let rest = held_load facts row col w h l e ks (λ i d m. a (suc i) d (omega arith)) in
    omega arith

held_below : (facts : Masks) (row col : ℕ) → row < length facts → col < length (row_at facts row) → (ks : List ℕ) → length ks ≤ 16 → All (Lighter (cell_at facts row col)) ks
    → load (held facts row col ks) < 2 ^ (5 * weight facts)
unfolding load
held_below facts row col h l [] m a = pow_pos (5 * weight facts)
held_below facts row col h l (k ∷ ks) m a =
    let some : 0 < weight facts = (let held_to = weight_with_cell facts row col (2 ^ k) h l in let less = a 0 0 (omega arith) in omega arith) in
    let w = weight facts - 1 in
    let all = held_load facts row col w h l (omega arith) (k ∷ ks) a in
    let most : length (k ∷ ks) * 2 ^ (5 * w) ≤ 16 * 2 ^ (5 * w) = mul-le-mul_right (2 ^ (5 * w)) m in
    let split : 2 ^ (5 * w + 5) ≡ 2 ^ (5 * w) * 2 ^ 5 = pow-add 2 (5 * w) 5 in
    let whole : 2 ^ (5 * weight facts) ≡ 2 ^ (5 * w + 5) = ap (λ n. 2 ^ n) (let e : 5 * weight facts ≡ 5 * w + 5 = omega arith in e) in
    let positive = pow_pos (5 * w) in
    omega arith

pub few_colours : (mask : ℕ) → length (colours_of mask) ≤ 16
unfolding colours_of
few_colours mask =
    let kept = length-filter (λ k. bit_at mask k == 1) (range_with_len 0 16) in
    let most = count_by-le-length (λ k. bit_at mask k == 1) (range_with_len 0 16) in
    let all = length-range_with_len 0 16 in
    omega arith

colours_lighter : (mask : ℕ) → ((k : ℕ) → IsOnly mask k → ⊥) → All (Lighter mask) (colours_of mask)
unfolding colours_of
colours_lighter mask n = all_lighter mask (filter (λ k. bit_at mask k == 1) (range_with_len 0 16)) n (filter_passes (λ k. bit_at mask k == 1) (range_with_len 0 16))

pub branches_lighter : (facts : Masks) (row col : ℕ) → row < length facts → col < length (row_at facts row) → ((k : ℕ) → IsOnly (cell_at facts row col) k → ⊥)
    → load (branches facts row col (cell_at facts row col)) < 2 ^ (5 * weight facts)
branches_lighter facts row col h l n = held_below facts row col h l (colours_of (cell_at facts row col)) (few_colours (cell_at facts row col)) (colours_lighter (cell_at facts row col) n)

pub load_append : (xs ys : List (List (List ℕ))) → load (xs ++ ys) ≡ load xs + load ys
unfolding load
load_append xs ys = total_append loads xs ys

pub load_more : (facts : Masks) (others : List Masks) → load (facts ∷ others) ≡ 2 ^ (5 * weight facts) + load others
unfolding load
load_more facts others = refl

pub no_load : load [] ≡ 0
unfolding load
no_load = refl
