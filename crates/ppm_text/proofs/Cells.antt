-- Cells read one after the other, as a loop does, and what is true of cells that were read.
use Rattle.std.proofs.Common.{◌≡◌, ℕ, zero, suc, ◌-◌, ◌+◌, ◌≤◌, ◌<◌, ltb, List, [], ◌∷◌, ◌++◌, length, get_or, Option, Some, None, Result, Ok, Err, refl, sym, ap, subst, ◌∙◌, append_assoc}
use Rattle.std.proofs.Common.{length-append, arith, ◌⊎◌, inl, inr}
use Rattle.std.proofs.lemmas.List.{append-nil, get_or_past}
use Rattle.std.proofs.lemmas.Bool.{cases_lt}
use Rattle.picture.specs.Readers.{◌>>=◌}
use Rattle.picture.specs.declared.rgb.Rgb.{Rgb}
use Rattle.picture.specs.declared.picture.TheConstants.{MAX_COLOURS}
use Rattle.picture.proofs.ColourLaws.{number_small, placed}
use Rattle.picture.specs.Palette.{Colours, place_of, with_colour}
use Rattle.ppm_text.specs.declared.fault.PpmFault.{PpmFault}
use Rattle.ppm_text.specs.declared.fault.PpmFault.TheVariants.{Memory, TooManyColours}
use Rattle.ppm_text.specs.declared.fields.Triple.{Triple}
use Rattle.ppm_text.specs.Tokens.{Token}
use Rattle.ppm_text.specs.Samples.{samples_at}
use Rattle.ppm_text.specs.Ppm.{number_with, numbered_by, number_at, numbers_at}
use Rattle.ppm_text.proofs.Binds.{bind_ok, test_ok, ok_is}

abbrev Cells : Type 0
Cells = List ℕ × Colours × List Token

-- the cells that were read before, and those that are still read
abbrev pub with_front : List ℕ → Result (List ℕ × Colours × List Token) PpmFault → Result (List ℕ × Colours × List Token) PpmFault
with_front front read = read >>= λ x. Ok (front ++ x.0, x.1, x.2)

regroup : (front : List ℕ) (cell : ℕ) (read : Result Cells PpmFault) → with_front front (read >>= λ x. Ok (cell ∷ x.0, x.1, x.2)) ≡ with_front (front ++ cell ∷ []) read
regroup front cell (Ok x) = ap (λ (cells : List ℕ). Ok (cells, x.1, x.2)) (simp append_assoc)
regroup front cell (Err e) = refl

pub cells_go_on :
    (front : List ℕ) (end count i : ℕ) (colours : Colours) (tokens : List Token) (cell : ℕ) (after : Colours) (rest : List Token) (total : Result (List ℕ × Colours × List Token) PpmFault)
    → i < count → number_at end colours tokens ≡ Ok (cell, after, rest)
    → with_front front (numbers_at end (count - i) colours tokens) ≡ total → with_front (front ++ cell ∷ []) (numbers_at end (count - (i + 1)) after rest) ≡ total
unfolding numbers_at
cells_go_on front end count i colours tokens cell after rest total lt h so_far =
    let k : count - i ≡ suc (count - (i + 1)) = omega arith in
    let one : with_front front (numbers_at end (count - i) colours tokens) ≡ with_front (front ++ cell ∷ []) (numbers_at end (count - (i + 1)) after rest) =
    rw (k, h) (regroup front cell (numbers_at end (count - (i + 1)) after rest)) in
    sym one ∙ so_far

pub cells_stop : (e : PpmFault) (front : List ℕ) (end count i : ℕ) (colours : Colours) (tokens : List Token) (total : Result (List ℕ × Colours × List Token) PpmFault)
    → i < count → (e ≡ Memory) ⊎ (number_at end colours tokens ≡ Err e)
    → with_front front (numbers_at end (count - i) colours tokens) ≡ total → (e ≡ Memory) ⊎ (total ≡ Err e)
unfolding numbers_at
cells_stop e front end count i colours tokens total lt h so_far =
    elim h [
      | inl none ↦ inl none
      | inr fault ↦
          let k : count - i ≡ suc (count - (i + 1)) = omega arith in
          let one : with_front front (numbers_at end (count - i) colours tokens) ≡ Err e = rw (k, fault) refl in
          inr (sym so_far ∙ one)
    ]

pub cells_end : (front : List ℕ) (end count i : ℕ) (colours : Colours) (tokens : List Token) (total : Result (List ℕ × Colours × List Token) PpmFault)
    → count ≤ i → with_front front (numbers_at end (count - i) colours tokens) ≡ total → total ≡ Ok (front, colours, tokens)
unfolding numbers_at
cells_end front end count i colours tokens total le so_far =
    let k : count - i ≡ 0 = omega arith in
    let one : with_front front (numbers_at end (count - i) colours tokens) ≡ Ok (front, colours, tokens) = rw k (ap (λ (cells : List ℕ). Ok (cells, colours, tokens)) (append-nil front)) in
    sym so_far ∙ one

pub ruleset cell_loop = (cells_go_on, cells_stop, cells_end)

-- ---- what is true of cells that were read

place_below : (rgb : Rgb) (triples : List Rgb) (k : ℕ) → place_of rgb triples ≡ Some k → k < length triples
place_below rgb triples k e = let below = number_small rgb triples (placed rgb triples k (sym e)) in rw e at below

-- a palette grows by colours at its end, and not past 16
pub record Grows (old new : Colours) : Type 0 where
  pub maxval : new.maxval ≡ old.maxval
  pub longer : length old.triples ≤ length new.triples

Grows-trans : (a b c : Colours) → Grows a b → Grows b c → Grows a c
Grows-trans a b c p q = record { maxval = q.maxval ∙ p.maxval; longer = omega (arith, p.longer, q.longer) }

abbrev IsCellOf : Colours → ℕ × Colours → Type 0
IsCellOf colours cell = Grows colours cell.1 × (cell.0 < length cell.1.triples)

numbered_is : (colours : Colours) (triple : Triple) (place : Option ℕ) (cell : ℕ × Colours) → ((k : ℕ) → place ≡ Some k → k < length colours.triples)
    → numbered_by place colours triple ≡ Ok cell → IsCellOf colours cell
numbered_is colours triple (Some k) cell below e =
    subst (IsCellOf colours) (ok_is Memory (k, colours) cell e) (record { maxval = refl; longer = omega arith }, below k refl)
numbered_is colours triple None cell below e =
    let t = test_ok (ltb (length colours.triples) MAX_COLOURS) (TooManyColours triple.place) (length colours.triples, with_colour colours triple.colour) cell e in
    let longer : length (with_colour colours triple.colour).triples ≡ length colours.triples + 1 = length-append colours.triples (triple.colour ∷ []) in
    subst (IsCellOf colours) t.1 (record { maxval = refl; longer = omega (arith, longer) }, omega (arith, longer))

abbrev IsReadCell : Colours → ℕ × Colours × List Token → Type 0
IsReadCell colours cell = Grows colours cell.1 × (cell.0 < length cell.1.triples)

cell_is : (end : ℕ) (colours : Colours) (tokens : List Token) (cell : ℕ × Colours × List Token) → number_at end colours tokens ≡ Ok cell → IsReadCell colours cell
unfolding number_at
cell_is end colours tokens cell e =
    let a = bind_ok (samples_at end colours.maxval tokens) (λ triple. number_with colours triple.0 >>= λ c. Ok (c.0, c.1, triple.1)) cell e in
    let b = bind_ok (number_with colours a.0.0) (λ c. Ok (c.0, c.1, a.0.1)) cell a.2 in
    let one = numbered_is colours a.0.0 (place_of a.0.0.colour colours.triples) b.0 (λ k h. place_below a.0.0.colour colours.triples k h) b.1 in
    subst (IsReadCell colours) (ok_is Memory (b.0.0, b.0.1, a.0.1) cell b.2) one

-- cells that were read: as many as were asked for, each with a number of the palette
pub record AreRead (count : ℕ) (old : Colours) (cells : List ℕ) (new : Colours) : Type 0 where
  pub all : length cells ≡ count
  pub grows : Grows old new
  pub coloured : (k : ℕ) → k < length cells → get_or cells k 0 < length new.triples

with_first : (first : ℕ) (rest : List ℕ) (n : ℕ) → first < n → ((k : ℕ) → k < length rest → get_or rest k 0 < n) → (k : ℕ) → k < length (first ∷ rest) → get_or (first ∷ rest) k 0 < n
with_first first rest n h others zero lt = h
with_first first rest n h others (suc k) lt = others k (omega arith)

pub cells_are : (end count : ℕ) (colours : Colours) (tokens : List Token) (cells : List ℕ × Colours × List Token)
    → numbers_at end count colours tokens ≡ Ok cells → AreRead count colours cells.0 cells.1
unfolding numbers_at
cells_are end zero colours tokens cells e =
    subst (λ (c : Cells). AreRead zero colours c.0 c.1) (ok_is Memory ([], colours, tokens) cells e)
    (record { all = refl; grows = record { maxval = refl; longer = omega arith }; coloured = λ k lt. absurd (omega arith) })
cells_are end (suc count) colours tokens cells e =
    let a = bind_ok (number_at end colours tokens) (λ first. numbers_at end count first.1 first.2 >>= λ others. Ok (first.0 ∷ others.0, others.1, others.2)) cells e in
    let b = bind_ok (numbers_at end count a.0.1 a.0.2) (λ others. Ok (a.0.0 ∷ others.0, others.1, others.2)) cells a.2 in
    let first = cell_is end colours tokens a.0 a.1 in
    let others = cells_are end count a.0.1 a.0.2 b.0 b.1 in
    let made : Cells = (a.0.0 ∷ b.0.0, b.0.1, b.0.2) in
    subst (λ (c : Cells). AreRead (suc count) colours c.0 c.1) {x = made} (ok_is Memory made cells b.2) (record {
      all = ap suc others.all;
      grows = Grows-trans colours a.0.1 b.0.1 first.0 others.grows;
      coloured = with_first a.0.0 b.0.0 (length b.0.1.triples) (omega (arith, first.1, others.grows.longer)) others.coloured;
    })

pub all_read : (end count : ℕ) (colours : Colours) (tokens : List Token) (cells : List ℕ) (after : Colours) (rest : List Token) → numbers_at end count colours tokens ≡ Ok (cells, after, rest)
    → length cells ≡ count
all_read end count colours tokens cells after rest e = (cells_are end count colours tokens (cells, after, rest) e).all

pub coloured_read : (end count : ℕ) (colours : Colours) (tokens : List Token) (cells : List ℕ) (after : Colours) (rest : List Token) → numbers_at end count colours tokens ≡ Ok (cells, after, rest)
    → 0 < length colours.triples
    → (k : ℕ) → get_or cells k 0 < length after.triples
coloured_read end count colours tokens cells after rest e some k =
    let are = cells_are end count colours tokens (cells, after, rest) e in
    elim (cases_lt k (length cells)) [
      | inl lt ↦ are.coloured k lt
      | inr le ↦ rw (get_or_past cells k 0 le) (omega (arith, are.grows.longer))
    ]

pub ruleset read_cells = (all_read, coloured_read)
