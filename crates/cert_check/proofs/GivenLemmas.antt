-- Givens held one by one.
use Rattle.std.proofs.Common.{◌≡◌, ℕ, zero, suc, ◌+◌, ◌*◌, ◌<◌, ◌≤◌, List, [], ◌∷◌, length, get_or, drop, drop-cons, add-one, refl, sym, subst, inl, inr, arith}
use Rattle.std.specs.List.{AllByRecursion}
use Rattle.line_facts.specs.Masks.{Masks}
use Rattle.picture.specs.Rows.{Rows}
use Rattle.cert_text.specs.declared.fault.CertFault.{CertFault}
use Rattle.cert_text.specs.declared.fault.CertFault.TheVariants.{Place}
use Rattle.cert_text.specs.declared.cert_line.CellNumber.{CellNumber}
use Rattle.cert_text.specs.Cert.{AreOrdered}
use Rattle.cert_check.specs.Puzzle.{HasCellNumber, with_givens}
use Rattle.cert_check.specs.FirstFault.{GivenFault}

-- the first i givens are held: the first error of the others is the first error of all
pub record BaseSoFar (picture : Rows) (start facts : Masks) (i : ℕ) (givens : List CellNumber) : Type 0 where
  pub goes : (fault : CertFault) → GivenFault picture (2 + i) (drop i givens) fault → GivenFault picture 2 givens fault
  pub held : with_givens picture (drop i givens) facts ≡ with_givens picture givens start
  pub inside : AllByRecursion (HasCellNumber picture) (drop i givens) → AllByRecursion (HasCellNumber picture) givens

here : (cells : List CellNumber) (i : ℕ) (d : CellNumber) → i < length cells → drop i cells ≡ get_or cells i d ∷ drop (i + 1) cells
here cells i d l = rw (add-one, drop-cons cells i d) refl

-- a given that does not lie in the picture is the first error
pub missing : (picture : Rows) (start facts : Masks) (i : ℕ) (givens : List CellNumber) (cell d : CellNumber) → BaseSoFar picture start facts i givens → i < length givens → cell ≡ get_or givens i d
    → (HasCellNumber picture cell → ⊥) → GivenFault picture 2 givens (Place (2 + i))
missing picture start facts i givens cell d so_far l e outside = so_far.goes (Place (2 + i)) (rw (here givens i d l, ← e) (inl (outside, refl)))

-- each given lies in the picture where all do
pub has_each : (picture : Rows) (cells : List CellNumber) (i : ℕ) (cell d : CellNumber) → i < length cells → cell ≡ get_or cells i d
    → AllByRecursion (HasCellNumber picture) cells → HasCellNumber picture cell
has_each picture [] i cell d l e has = absurd (omega arith)
has_each picture (c ∷ cells) zero cell d l e has = let P : CellNumber → Type 0 = λ x. HasCellNumber picture x in subst P (sym e) has.0
has_each picture (c ∷ cells) (suc i) cell d l e has = has_each picture cells i cell d (omega arith) e has.1

pub ordered_few : (least : ℕ) (cells : List CellNumber) → least ≤ 1000000 → AreOrdered least cells → length cells + least ≤ 1000000
ordered_few least [] l o = omega arith
ordered_few least (cell ∷ cells) l o = let r = ordered_few (cell.row * 1000 + cell.col + 1) cells (omega arith) o.3 in omega arith

-- no given is outside where all are inside
pub inside_no_fault : (picture : Rows) (cells : List CellNumber) (n : ℕ) (fault : CertFault) → AllByRecursion (HasCellNumber picture) cells → GivenFault picture n cells fault → ⊥
inside_no_fault picture [] n fault has f = f
inside_no_fault picture (cell ∷ cells) n fault has (inl h) = h.0 has.0
inside_no_fault picture (cell ∷ cells) n fault has (inr h) = inside_no_fault picture cells (n + 1) fault has.1 h.1
