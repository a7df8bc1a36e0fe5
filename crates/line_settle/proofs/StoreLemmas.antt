-- Writing one row of a table leaves the others.
use Rattle.std.proofs.Common.{◌≡◌, ◌≢◌, ℕ, suc, ◌+◌, ◌-◌, ◌*◌, ◌<◌, ◌≤◌, Bool, false, List, ◌++◌, sym, ap, subst, ◌∙◌, arith, ◌⊎◌, inl, inr, length, get_or, take, drop}
use Rattle.std.proofs.Math.ListN.{get_or-append}
use Rattle.std.proofs.lemmas.Bool.{cases_order}
use Rattle.std.proofs.lemmas.Nat.{mul-le}
use Rattle.std.proofs.lemmas.List.{length-take, get_or-take, get_or-drop, get_or-append_right}

-- a place of one row of width w is no place of another
pub row_apart : (i j w q : ℕ) → j ≢ i → q < w → (j * w + q < i * w) ⊎ (i * w + w ≤ j * w + q)
row_apart i j w q n l = elim (cases_order j i) [
  | inl e ↦ absurd (n e)
  | inr o ↦ elim o [
    | inl h ↦ let m = mul-le (suc j) w i w (omega arith) (omega arith) in inl (omega arith)
    | inr h ↦ let m = mul-le (suc i) w j w (omega arith) (omega arith) in inr (omega arith)
  ]
]

-- what is read outside a part that was written
pub read_outside : {X : Type 0} (a k : ℕ) (xs ys : List X) (n : ℕ) (d : X) → a + k ≤ length xs → length ys ≡ k → (n < a) ⊎ (a + k ≤ n)
    → get_or (take a xs ++ (ys ++ drop k (drop a xs))) n d ≡ get_or xs n d
read_outside a k xs ys n d h e o =
    let t = length-take a xs in
    let m : length (take a xs) ≡ a = omega arith in
    elim o [
      | inl l ↦ get_or-append (take a xs) (ys ++ drop k (drop a xs)) d n (omega arith) ∙ get_or-take a xs n d l
      | inr g ↦
          get_or-append_right (take a xs) (ys ++ drop k (drop a xs)) a n d m (omega arith)
          ∙ (get_or-append_right ys (drop k (drop a xs)) k (n - a) d e (omega arith)
          ∙ (get_or-drop k (drop a xs) (n - a - k) d
          ∙ (get_or-drop a xs (k + (n - a - k)) d
          ∙ ap (λ p. get_or xs p d) (let z : a + (k + (n - a - k)) ≡ n = omega arith in z))))
    ]

-- the other rows of a table of which one was written, k being what the code computes for the row's width
pub row_kept : (table ys : List Bool) (w k i j q : ℕ) → k ≡ w → i * w + w ≤ length table → length ys ≡ w → j ≢ i → q < w
    → get_or (take (i * w) table ++ (ys ++ drop k (drop (i * w) table))) (j * w + q) false ≡ get_or table (j * w + q) false
row_kept table ys w k i j q e room len n l =
    let P : ℕ → Type 0 = λ m. get_or (take (i * w) table ++ (ys ++ drop m (drop (i * w) table))) (j * w + q) false ≡ get_or table (j * w + q) false in
    subst P (sym e) (read_outside (i * w) w table ys (j * w + q) false room len (row_apart i j w q n l))

-- a table of as many rows as a row is wide has room for the rows before n cells and after them
pub rows_fit : (n longest w t : ℕ) → n ≤ longest → w ≡ longest + 1 → t ≡ (longest + 1) * (longest + 1) → n * w + w ≤ t
rows_fit n longest w t h e f =
    let P : ℕ → Type 0 = λ m. n * m + m ≤ t in
    let m = mul-le (suc n) (longest + 1) (longest + 1) (longest + 1) (omega arith) (omega arith) in
    subst P (sym e) (omega arith)
