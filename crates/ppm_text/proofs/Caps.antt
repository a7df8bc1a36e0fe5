-- The cap of a number decides nothing: each field is read from the capped number as from the number.
use Rattle.std.proofs.Common.{◌≡◌, ℕ, ◌<◌, ◌≤◌, min, true, cond, ◌||◌, eqb, ltb, List, Option, Result, Ok, Err, refl, sym, ap, arith, inl, inr}
use Rattle.std.proofs.lemmas.Bool.{cases_lt}
use Rattle.std.proofs.lemmas.Bool.Decides.{nat_tests}
use Rattle.picture.specs.Readers.{◌>>=◌}
use Rattle.picture.specs.declared.picture.TheConstants.{MAX_SIDE}
use Rattle.ppm_text.specs.declared.fault.PpmFault.{PpmFault}
use Rattle.ppm_text.specs.declared.fault.PpmFault.TheVariants.{EmptySize, TooLarge, SampleOver, BadMaxval}
use Rattle.ppm_text.specs.declared.scanner.Numeral.{Numeral}
use Rattle.ppm_text.specs.Tokens.{Token}
use Rattle.ppm_text.specs.Numerals.{numeral_at, capped_at, under_cap}
use Rattle.picture.specs.declared.rgb.Rgb.{Rgb}
use Rattle.picture.specs.Palette.{Colours}
use Rattle.ppm_text.specs.Samples.{side_at, sample_at}
use Rattle.ppm_text.specs.Ppm.{palette_at, first_palette}

-- a step that gives the same result from the capped number as from the number
by_cap : {A : Type 0} (next : Numeral × List Token → Result A PpmFault) → ((n : Numeral × List Token) → next (under_cap n) ≡ next n)
    → (read : Result (Numeral × List Token) PpmFault) → ((read >>= λ n. Ok (under_cap n)) >>= next) ≡ (read >>= next)
by_cap next same (Ok n) = same n
by_cap next same (Err e) = refl

abbrev side_from : Numeral × List Token → Result (ℕ × List Token) PpmFault
side_from side = cond (eqb side.0.value 0) (Err (EmptySize side.0.place)) (cond (ltb MAX_SIDE side.0.value) (Err (TooLarge side.0.place)) (Ok (side.0.value, side.1)))

side_same : (n : Numeral × List Token) → side_from (under_cap n) ≡ side_from n
side_same n = grind (arith, nat_tests)

pub side_by_cap : (end : ℕ) (tokens : List Token) → side_at end tokens ≡ (capped_at end tokens >>= side_from)
unfolding side_at
side_by_cap end tokens = sym (by_cap side_from side_same (numeral_at end tokens))

abbrev sample_from : ℕ → Numeral × List Token → Result (Numeral × List Token) PpmFault
sample_from maxval sample = cond (ltb maxval sample.0.value) (Err (SampleOver sample.0.place)) (Ok sample)

abbrev counted_as : Numeral × List Token → ℕ → Numeral × List Token
counted_as read v = (record { place = read.0.place; value = v }, read.1)

below_cap : (maxval : ℕ) → maxval < 65536 → (n : Numeral × List Token) → n.0.value ≤ maxval → under_cap n ≡ n
below_cap maxval lt n le =
    let same : min n.0.value 65536 ≡ n.0.value = omega arith in
    ap (counted_as n) same

sample_same : (maxval : ℕ) → maxval < 65536 → (n : Numeral × List Token) → sample_from maxval (under_cap n) ≡ sample_from maxval n
sample_same maxval lt n =
    elim (cases_lt maxval n.0.value) [
      | inl over ↦
          let a : ltb maxval n.0.value ≡ true = grind (arith, nat_tests) in
          let b : ltb maxval (min n.0.value 65536) ≡ true = grind (arith, nat_tests) in
          rw (a, b) refl
      | inr le ↦ ap (sample_from maxval) (below_cap maxval lt n le)
    ]

pub sample_by_cap : (end maxval : ℕ) (tokens : List Token) → maxval < 65536 → sample_at end maxval tokens ≡ (capped_at end tokens >>= sample_from maxval)
unfolding sample_at
sample_by_cap end maxval tokens lt = sym (by_cap (sample_from maxval) (sample_same maxval lt) (numeral_at end tokens))

abbrev palette_from : Option Rgb → Numeral × List Token → Result (Colours × List Token) PpmFault
palette_from background maxval =
    cond (eqb maxval.0.value 0 || ltb 65535 maxval.0.value) (Err (BadMaxval maxval.0.place)) (first_palette background maxval.0.value maxval.0.place >>= λ colours. Ok (colours, maxval.1))

palette_same : (background : Option Rgb) (n : Numeral × List Token) → palette_from background (under_cap n) ≡ palette_from background n
palette_same background n =
    elim (cases_lt 65535 n.0.value) [
      | inl over ↦
          let a : (eqb n.0.value 0 || ltb 65535 n.0.value) ≡ true = grind (arith, nat_tests) in
          let b : (eqb (min n.0.value 65536) 0 || ltb 65535 (min n.0.value 65536)) ≡ true = grind (arith, nat_tests) in
          rw (a, b) refl
      | inr le ↦ ap (palette_from background) (below_cap 65535 (omega arith) n le)
    ]

pub palette_by_cap : (background : Option Rgb) (end : ℕ) (tokens : List Token) → palette_at background end tokens ≡ (capped_at end tokens >>= palette_from background)
unfolding palette_at
palette_by_cap background end tokens = sym (by_cap (palette_from background) (palette_same background) (numeral_at end tokens))

pub ruleset caps = (side_by_cap, sample_by_cap)

pub ruleset palette_caps = (palette_by_cap)
