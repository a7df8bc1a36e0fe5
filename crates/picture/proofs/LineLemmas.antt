-- The cells of a line, one by one and at both ends.
use Rattle.std.proofs.Common.{◌≡◌, ℕ, zero, suc, ◌+◌, ◌*◌, ◌-◌, ◌<◌, List, [], ◌∷◌, ◌++◌, length, get_or, arith, refl, ap, ◌∙◌, inl, inr}
use Rattle.std.proofs.lemmas.List.{get_or_past}
use Rattle.std.proofs.lemmas.Bool.{cases_lt}
use Rattle.picture.specs.Line.{spaced, IsLine, IsSpaced}

pub length-spaced : (cells : List ℕ) (start step count : ℕ) → length (spaced cells start step count) ≡ count
length-spaced cells start step zero = refl
length-spaced cells start step (suc count) = ap suc (length-spaced cells (start + step) step count)

pub get_or-spaced : (cells : List ℕ) (start step count i : ℕ) → i < count → get_or (spaced cells start step count) i 0 ≡ get_or cells (start + i * step) 0
get_or-spaced cells start step zero i lt = absurd (omega (arith, lt))
get_or-spaced cells start step (suc count) zero lt = ap (λ k. get_or cells k 0) (omega arith)
get_or-spaced cells start step (suc count) (suc i) lt =
    get_or-spaced cells (start + step) step count i (omega arith) ∙ ap (λ k. get_or cells k 0) (omega arith)

-- one cell more at the end
pub spaced_last : (cells : List ℕ) (start step count : ℕ) → spaced cells start step (suc count) ≡ spaced cells start step count ++ get_or cells (start + count * step) 0 ∷ []
spaced_last cells start step zero = ap (λ k. get_or cells k 0 ∷ []) (omega arith)
spaced_last cells start step (suc count) =
    ap (λ (xs : List ℕ). get_or cells start 0 ∷ xs) (spaced_last cells (start + step) step count ∙ ap (λ k. spaced cells (start + step) step count ++ get_or cells k 0 ∷ []) (omega arith))

pub spaced_is_line : (cells : List ℕ) (start step count : ℕ) → 0 < count → IsSpaced cells start step count → IsLine (spaced cells start step count)
spaced_is_line cells start step count some is = grind (arith, get_or-spaced, get_or_past, length-spaced, spaced)

pub spaced_first : (cells : List ℕ) (start step count : ℕ) → 0 < count → spaced cells start step count ≡ get_or cells start 0 ∷ spaced cells (start + step) step (count - 1)
spaced_first cells start step zero some = absurd (omega (arith, some))
spaced_first cells start step (suc count) some = let less : suc count - 1 ≡ count = omega arith in rw less refl

pub spaced_last_of : (cells : List ℕ) (start step count : ℕ) → 0 < count → spaced cells start step count ≡ spaced cells start step (count - 1) ++ get_or cells (start + (count - 1) * step) 0 ∷ []
spaced_last_of cells start step zero some = absurd (omega (arith, some))
spaced_last_of cells start step (suc count) some = let less : suc count - 1 ≡ count = omega arith in rw less (spaced_last cells start step count)

pub ruleset spacing = (length-spaced, get_or-spaced, spaced_first, spaced_last_of)
