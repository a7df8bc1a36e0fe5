-- The cells that fall, place by place, and the colours of masks.
use Rattle.std.proofs.Common.{◌≡◌, ℕ, zero, suc, ◌+◌, ◌<◌, ◌≤◌, List, [], ◌∷◌, ◌++◌, length, ap, ◌∙◌, arith, append-nil, length-append}
use Rattle.std.specs.Prelude.{Option, None, Some, count_ones}
use Rattle.std.specs.List.{filter_map, cons_option, range_with_len}
use Rattle.std.proofs.lemmas.List.Elements.{filter_map-append}
use Rattle.std.proofs.lemmas.Nat.{ones-le}

-- one number more
range_more : (a n : ℕ) → range_with_len a (suc n) ≡ range_with_len a n ++ (a + n) ∷ []
range_more a zero = ap (λ (k : ℕ). k ∷ []) (omega arith)
range_more a (suc n) = ap (λ (rest : List ℕ). a ∷ rest) (range_more (a + 1) n ∙ ap (λ (k : ℕ). range_with_len (a + 1) n ++ k ∷ []) (omega arith))

next_range : (n : ℕ) → range_with_len 0 (n + 1) ≡ range_with_len 0 n ++ n ∷ []
next_range n = ap (range_with_len 0) (let e : n + 1 ≡ suc n = omega arith in e) ∙ (range_more 0 n ∙ ap (λ (k : ℕ). range_with_len 0 n ++ k ∷ []) (omega arith))

module _ {X : Type 0} (f : ℕ → Option X) (n : ℕ) where
  pub one_more : (x : X) → f n ≡ Some x → filter_map f (range_with_len 0 (n + 1)) ≡ filter_map f (range_with_len 0 n) ++ x ∷ []
  one_more x e =
      let step : filter_map f (n ∷ []) ≡ x ∷ [] = ap (λ (o : Option X). cons_option o []) e in
      ap (filter_map f) (next_range n) ∙ (filter_map-append f (range_with_len 0 n) (n ∷ []) ∙ ap (λ (rest : List X). filter_map f (range_with_len 0 n) ++ rest) step)

  pub one_counted : (x : X) → f n ≡ Some x → length (filter_map f (range_with_len 0 (n + 1))) ≡ length (filter_map f (range_with_len 0 n)) + 1
  one_counted x e = ap length (one_more x e) ∙ length-append (filter_map f (range_with_len 0 n)) (x ∷ [])

  pub no_more : f n ≡ None → filter_map f (range_with_len 0 (n + 1)) ≡ filter_map f (range_with_len 0 n)
  no_more e =
      let step : filter_map f (n ∷ []) ≡ [] = ap (λ (o : Option X). cons_option o []) e in
      ap (filter_map f) (next_range n)
      ∙ (filter_map-append f (range_with_len 0 n) (n ∷ [])
      ∙ (ap (λ (rest : List X). filter_map f (range_with_len 0 n) ++ rest) step ∙ append-nil (filter_map f (range_with_len 0 n))))

-- a mask of colours has at most sixteen
pub few_ones : (mask : ℕ) → mask < 65536 → count_ones mask ≤ 16
few_ones mask small = ones-le 16 mask small

pub ruleset falling = (one_more, one_counted, no_more)
