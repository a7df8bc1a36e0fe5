-- A colour that is left in the cells of a set, some cells at a time.
use Rattle.std.proofs.Common.{◌≡◌, ℕ, ◌+◌, ◌-◌, ◌*◌, ◌/◌, ◌%◌, ◌^◌, ◌<◌, ◌≤◌, Bool, false, List, ◌==◌, ◌&&◌, ◌||◌, bit_and, bit_or, refl, sym, ap, ◌∙◌, arith, inl, inr, length, get_or, set}
use Rattle.std.proofs.lemmas.Bool.Decides.{nat_tests}
use Rattle.std.proofs.Math.Bool.{and-true, or-false}
use Rattle.std.proofs.lemmas.Bool.{cases_eq, cases_lt}
use Rattle.std.proofs.lemmas.List.{get_or-set_same, get_or-set_other}
use Rattle.std.proofs.lemmas.Nat.Bits.{shr_and_one, bit_at_ones}
use Rattle.line_settle.specs.Patterns.{allows}
use Rattle.line_facts.specs.BitSets.{has}
use Rattle.line_settle.specs.Positions.{IsColoured}
use Rattle.line_settle.proofs.BitLemmas.{allows_or, allows_shifted}
use Rattle.line_settle.proofs.PositionLemmas.{has_and, has_down}

pub coloured : (mask colour k : ℕ) → colour < 16 → allows (bit_or mask (1 * 2 ^ colour % 65536)) k ≡ (allows mask k || colour == k)
coloured mask colour k h = rw (allows_or, allows_shifted colour k h) refl

pub same_colours : (mask k : ℕ) (b : Bool) → allows mask k ≡ (allows mask k || (false && b))
same_colours mask k b = sym (or-false (allows mask k))

-- a bit as it is tested
pub tested : (a j : ℕ) → (bit_and (a / 2 ^ j) 1 == 1) ≡ has a j
unfolding has
tested a j = ap (λ x. x == 1) (shr_and_one a j)

pub none_coloured : (places colour : ℕ) (keep : Bool) (first : ℕ) (old : List ℕ) → IsColoured places colour keep first first old old
none_coloured places colour keep first old = record { inside = λ i j k e l. absurd (omega arith); before = λ i l. refl; behind = λ i l. refl }

pub coloured_more : (places colour : ℕ) (keep : Bool) (first here next j v : ℕ) (b : Bool) (old out : List ℕ) → here ≡ first + j → next ≡ here + 1 → here < length out → b ≡ has places j → ((k : ℕ)
    → allows v k ≡ ((keep && allows (get_or out here 0) k) || (b && colour == k))) → IsColoured places colour keep first here old out → IsColoured places colour keep first next old (set out here v)
coloured_more places colour keep first here next j v b old out e f h t is done = record {
  inside = λ i n k p l. elim (cases_eq i here) [
    | inl same ↦
        let q : n ≡ j = omega arith in
        rw (same, get_or-set_same out here v 0 h, is k, done.behind here (omega arith), t, q) refl
    | inr other ↦ rw (get_or-set_other out here i v 0 other) (done.inside i n k p (omega arith))
  ];
  before = λ i l. get_or-set_other out here i v 0 (λ q. absurd (omega arith)) ∙ done.before i l;
  behind = λ i l. get_or-set_other out here i v 0 (λ q. absurd (omega arith)) ∙ done.behind i (omega arith);
}

-- cells after those that are done already
pub coloured_on : (places rest colour : ℕ) (keep : Bool) (done first end n : ℕ) (old out new : List ℕ) → first ≡ done → end ≡ n → done ≤ n → ((j : ℕ) → done + j < n
    → has rest j ≡ has places (done + j)) → IsColoured places colour keep 0 done old out → IsColoured rest colour keep first end out new → IsColoured places colour keep 0 n old new
coloured_on places rest colour keep done first end n old out new f e d same earlier more = record {
  inside = λ i j k p l. elim (cases_lt i done) [
    | inl low ↦ rw (more.before i (omega arith)) (earlier.inside i j k p low)
    | inr high ↦
        let q : done + (i - done) ≡ j = omega arith in
        rw (more.inside i (i - done) k (omega arith) (omega arith), earlier.behind i high, same (i - done) (omega arith), q) refl
  ];
  before = λ i l. absurd (omega arith);
  behind = λ i l. more.behind i (omega arith) ∙ earlier.behind i (omega arith);
}

-- the eight lowest positions
pub low_eight : (a j : ℕ) → j < 8 → has (bit_and a 255) j ≡ has a j
unfolding has
low_eight a j h = rw (has_and, bit_at_ones 8 j h) (and-true (has a j))

-- the set without eight more positions
pub rest_more : (places rest chunk j : ℕ) → ((n : ℕ) → has rest n ≡ has places (8 * chunk + n)) → has (rest / 2 ^ 8) j ≡ has places (8 * (chunk + 1) + j)
rest_more places rest chunk j h = has_down 8 rest j ∙ (h (j + 8) ∙ ap (λ n. has places n) (let e : 8 * chunk + (j + 8) ≡ 8 * (chunk + 1) + j = omega arith in e))

-- the last eight cells, some of which are done already
pub coloured_last : (places colour : ℕ) (keep : Bool) (last whole n : ℕ) (old out new : List ℕ) → last + 8 ≡ n → last < whole → whole ≤ n → IsColoured places colour keep 0 whole old out → IsColoured
    (bit_and (places / 2 ^ last) 255) colour keep last (last + 8) out new → (i k : ℕ) → i < n → allows (get_or new i 0) k ≡ ((keep && allows (get_or old i 0) k) || (has places i && colour == k))
coloured_last places colour keep last whole n old out new e l w earlier more i k h = elim (cases_lt i last) [
  | inl low ↦ rw (more.before i low) (earlier.inside i i k (omega arith) (omega arith))
  | inr high ↦
      let j : ℕ = i - last in
      let q : j + last ≡ i = omega arith in
      rw (more.inside i j k (omega arith) (omega arith), low_eight (places / 2 ^ last) j (omega arith), has_down last places j, q)
      (elim (cases_lt i whole) [
        | inl done ↦ rw (earlier.inside i i k (omega arith) done) (once keep (allows (get_or old i 0) k) (has places i && colour == k))
        | inr new_cell ↦ rw (earlier.behind i new_cell) refl
      ])
]
  where
    once : (keep a b : Bool) → ((keep && ((keep && a) || b)) || b) ≡ ((keep && a) || b)
    once keep a b = grind (arith, nat_tests)

pub ruleset colouring = (coloured, same_colours, tested, none_coloured)
