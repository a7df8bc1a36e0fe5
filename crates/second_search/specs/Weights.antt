-- The weight of facts: the sum of their masks. A search ends since the load falls with each step.
use Rattle.std.specs.Prelude.{ℕ, ◌+◌, ◌*◌, ◌^◌, List, [], ◌∷◌}
use Rattle.line_facts.specs.Masks.{Masks}

-- the sum of a function over a list
abbrev pub total : {X : Type 0} → (X → ℕ) → List X → ℕ
total f [] = 0
total f (x ∷ xs) = f x + total f xs

unfoldable pub row_weight : List ℕ → ℕ
row_weight row = total (λ (x : ℕ). x) row

unfoldable pub weight : Masks → ℕ
weight facts = total row_weight facts

abbrev pub loads : Masks → ℕ
loads facts = 2 ^ (5 * weight facts)

unfoldable pub load : List Masks → ℕ
load many = total loads many
