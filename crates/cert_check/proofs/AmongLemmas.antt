-- Cells that are among others: the first of a list, or one of the rest.
use Rattle.std.proofs.Common.{◌≡◌, ◌⊎◌, ℕ, zero, suc, ◌<◌, List, ◌∷◌, length, get_or, sym, arith, inl, inr}
use Rattle.std.specs.List.{Contains}
use Rattle.cert_text.specs.declared.cert_line.CellNumber.{CellNumber}

pub among_first : (x y : CellNumber) (xs : List CellNumber) → x ≡ y → Contains (y ∷ xs) x
among_first x y xs e = (zero, omega arith, sym e)

pub among_rest : (x y : CellNumber) (xs : List CellNumber) → Contains xs x → Contains (y ∷ xs) x
among_rest x y xs m = (suc m.0, omega (arith, m.1), m.2)

pub among_cases : (x y : CellNumber) (xs : List CellNumber) → Contains (y ∷ xs) x → (x ≡ y) ⊎ Contains xs x
among_cases x y xs m = by m.0 m.1 m.2
  where
    by : (k : ℕ) → k < length (y ∷ xs) → get_or (y ∷ xs) k x ≡ x → (x ≡ y) ⊎ Contains xs x
    by zero l e = inl (sym e)
    by (suc k) l e = inr (k, omega (arith, l), e)
