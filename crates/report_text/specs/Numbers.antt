-- Numbers as text, and lines of words and numbers.
use Rattle.std.specs.Prelude.{ℕ, List, ◌∷◌, [], ◌++◌, decimal}
use Rattle.std.specs.List.{flat_map}

-- numbers, each with a space before it
abbrev pub numbers_text : List ℕ → List ℕ
numbers_text numbers = flat_map (λ (n : ℕ). 32 ∷ decimal n) numbers

-- words, numbers, each with a space before it, and the end of the line
unfoldable pub line_text : List ℕ → List ℕ → List ℕ
line_text words numbers = words ++ (numbers_text numbers ++ 10 ∷ [])
