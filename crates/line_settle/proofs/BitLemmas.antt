-- The colours of a mask, as its bits are tested.
use Rattle.std.proofs.Common.{◌≡◌, ℕ, suc, ◌-◌, ◌*◌, ◌%◌, ◌^◌, ◌<◌, true, false, ◌==◌, ◌||◌, bit_or, refl, sym, ap, ◌∙◌, arith, inl, inr, eq-eqb, ne_eqb, eqb-true}
use Rattle.std.specs.Int.{bit_at}
use Rattle.std.specs.Int.Count.{count_leading_zeros}
use Rattle.std.proofs.lemmas.Bool.{cases_eq, cases_lt}
use Rattle.std.proofs.lemmas.Nat.{leading_top}
use Rattle.std.proofs.lemmas.Nat.Bits.{shr_and_one, bit_at_or, bit_at-lt, bit_at-zero, bit_at_above, bit_at-pow_same, bit_at-pow_other}
use Rattle.std.proofs.lemmas.Grind.{one_shifted}
use Rattle.line_settle.specs.Patterns.{allows}
use Rattle.line_facts.proofs.BitSetLaws.{max_is_one}

pub allows_is : (mask k : ℕ) → allows mask k ≡ (bit_at mask k == 1)
allows_is mask k = ap (λ b. b == 1) (shr_and_one mask k)

pub allows_or : (a b k : ℕ) → allows (bit_or a b) k ≡ (allows a k || allows b k)
allows_or a b k =
    let e = max_is_one (bit_at a k) (bit_at b k) (bit_at-lt a k) (bit_at-lt b k) in
    let u = ap (λ x. x || (bit_at b k == 1)) (allows_is a k) in
    let v = ap (λ x. allows a k || x) (allows_is b k) in
    allows_is (bit_or a b) k ∙ (ap (λ x. x == 1) (bit_at_or a b k) ∙ (e ∙ (sym u ∙ sym v)))

pub allows_none : (k : ℕ) → allows 0 k ≡ false
allows_none k = allows_is 0 k ∙ ap (λ x. x == 1) (bit_at-zero k)

pub allows_power : (colour k : ℕ) → allows (2 ^ colour) k ≡ (colour == k)
allows_power colour k = elim (cases_eq colour k) [
  | inl e ↦ allows_is (2 ^ colour) k ∙ (ap (λ x. bit_at (2 ^ colour) x == 1) (sym e) ∙ (ap (λ x. x == 1) (bit_at-pow_same colour) ∙ sym (eq-eqb colour k e)))
  | inr n ↦ allows_is (2 ^ colour) k ∙ (ap (λ x. x == 1) (bit_at-pow_other colour k (λ e. n (sym e))) ∙ sym (ne_eqb colour k n))
]

pub allows_shifted : (colour k : ℕ) → colour < 16 → allows (1 * 2 ^ colour % 65536) k ≡ (colour == k)
allows_shifted colour k h = ap (λ m. allows m k) (one_shifted colour 65535 refl h).0 ∙ allows_power colour k

-- a colour that is left lies below the highest bit of the mask, or is it
pub below_length : (mask k : ℕ) → mask < 2 ^ 16 → allows mask k ≡ true → k < 16 - count_leading_zeros 16 mask
below_length mask k h e =
    let bit : bit_at mask k ≡ 1 = eqb-true _ _ (sym (allows_is mask k) ∙ e) in
    elim (cases_lt 0 mask) [
      | inl some ↦
          let top = leading_top 16 mask some h in
          elim (cases_lt top.0 k) [
            | inl l ↦ let z = bit_at_above mask (suc top.0) k top.3 l in absurd (omega arith)
            | inr l ↦ omega arith
          ]
      | inr none ↦
          let z : mask ≡ 0 = omega arith in
          let b = bit_at-zero k in
          let c = ap (λ m. bit_at m k) z in
          absurd (omega arith)
    ]

pub ruleset highest = (below_length)

pub ruleset bits = (allows_or, allows_none, allows_shifted)
