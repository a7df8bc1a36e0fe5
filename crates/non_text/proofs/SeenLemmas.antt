-- Sizes, and the first error of the lines.
use Rattle.std.proofs.Common.{◌≡◌, ℕ, ◌<◌, ◌≤◌, Bool, true, false, cond, leb, List, [], ◌∷◌, Option, Some, None, ◌⊎◌, min, refl, sym, ap, ◌∙◌, arith, inl, inr, ◌&&◌, option_map}
use Rattle.std.specs.Option.{option_and_then}
use Rattle.std.proofs.lemmas.Bool.{le-leb, lt-leb}
use Rattle.picture.specs.declared.picture.TheConstants.{MAX_SIDE}
use Rattle.non_text.specs.declared.seen.Seen.{Seen}
use Rattle.non_text.specs.declared.fault.NonFault.{NonFault}
use Rattle.picture.specs.Numbers.{number_spelled}
use Rattle.non_text.specs.Puzzle.{size_within, size_in, line_fault, first_of_two, first_fault}
use Rattle.non_text.specs.Seen.{seen_on, seen_with, fault_below}

-- ---- sizes

abbrev chosen_size : Bool → Bool → ℕ → Option ℕ
chosen_size low high n = cond (low && high) (Some n) None

size_small : (n : ℕ) → 0 < n → n ≤ MAX_SIDE → size_within n ≡ Some n
size_small n low high = ap (λ t. chosen_size t (leb n MAX_SIDE) n) (le-leb 1 n (omega arith)) ∙ ap (λ t. chosen_size true t n) (le-leb n MAX_SIDE high)

size_zero : (n : ℕ) → n ≡ 0 → size_within n ≡ None
size_zero n e = ap size_within e

size_large : (n : ℕ) → MAX_SIDE < n → size_within n ≡ None
size_large n high = ap (λ t. chosen_size t (leb n MAX_SIDE) n) (le-leb 1 n (omega arith)) ∙ ap (λ t. chosen_size true t n) (lt-leb n MAX_SIDE high)

pub size_none : (value : List ℕ) → option_map (min 255) (number_spelled value) ≡ None → size_in value ≡ None
unfolding size_in
size_none value e = by_number (number_spelled value) e
  where
    by_number : (o : Option ℕ) → option_map (min 255) o ≡ None → option_and_then size_within o ≡ None
    by_number None h = refl
    by_number (Some n) h = cc

pub size_some : (value : List ℕ) (n : ℕ) → option_map (min 255) (number_spelled value) ≡ Some n → 0 < n → n ≤ MAX_SIDE → size_in value ≡ Some n
unfolding size_in
size_some value n e low high = by_number (number_spelled value) e
  where
    by_number : (o : Option ℕ) → option_map (min 255) o ≡ Some n → option_and_then size_within o ≡ Some n
    by_number None h = cc
    by_number (Some m) h =
        let is : min 255 m ≡ n = cc in
        let same : m ≡ n = omega (arith, is, high) in
        ap size_within same ∙ size_small n low high

pub size_bad : (value : List ℕ) (n : ℕ) → option_map (min 255) (number_spelled value) ≡ Some n → (n ≡ 0) ⊎ (MAX_SIDE < n) → size_in value ≡ None
unfolding size_in
size_bad value n e bad = by_number (number_spelled value) e
  where
    by_number : (o : Option ℕ) → option_map (min 255) o ≡ Some n → option_and_then size_within o ≡ None
    by_number None h = refl
    by_number (Some m) h =
        let is : min 255 m ≡ n = cc in
        elim bad [ inl none ↦ size_zero m (omega (arith, is, none)) | inr large ↦ size_large m (omega (arith, is, large)) ]

pub ruleset sizes = (size_none, size_some, size_bad)

-- ---- errors

-- the first error of lines below keywords
unfoldable pub faults_below : Seen → List (List ℕ) → Option NonFault
faults_below seen [] = None
faults_below seen (line ∷ lines) = first_of_two (fault_below seen line) (faults_below (seen_with seen line) lines)

faults_is : (above lines : List (List ℕ)) → faults_below (seen_on above) lines ≡ first_fault above lines
unfolding faults_below first_fault line_fault fault_below
faults_is above [] = refl
faults_is above (line ∷ lines) = ap (first_of_two (line_fault above line)) (faults_is (line ∷ above) lines)

pub faults_first : (seen : Seen) (lines : List (List ℕ)) → seen.width ≡ false → seen.height ≡ false → seen.rows ≡ false → seen.columns ≡ false → faults_below seen lines ≡ first_fault [] lines
faults_first seen lines width height rows columns =
    let none : seen ≡ seen_on [] = λ i. record { width = width i; height = height i; rows = rows i; columns = columns i } in
    ap (λ (s : Seen). faults_below s lines) none ∙ faults_is [] lines

pub faults_none : (seen : Seen) → faults_below seen [] ≡ None
unfolding faults_below
faults_none seen = refl

pub faults_later : (seen : Seen) (line : List ℕ) (lines : List (List ℕ)) → fault_below seen line ≡ None → faults_below (seen_with seen line) lines ≡ faults_below seen (line ∷ lines)
unfolding faults_below
faults_later seen line lines e = sym (ap (λ fault. first_of_two fault (faults_below (seen_with seen line) lines)) e)

pub faults_here : (seen : Seen) (line : List ℕ) (lines : List (List ℕ)) (fault : NonFault) → fault_below seen line ≡ Some fault → faults_below seen (line ∷ lines) ≡ Some fault
unfolding faults_below
faults_here seen line lines fault e = ap (λ first. first_of_two first (faults_below (seen_with seen line) lines)) e

pub ruleset faults = (faults_none, faults_later, faults_here)
