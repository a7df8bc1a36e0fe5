-- How many words a line has, counted one by one.
use Rattle.std.proofs.Common.{◌≡◌, ℕ, ◌+◌, ◌<◌, ◌≤◌, Bool, cond, List, [], ◌∷◌, length, Result, Ok, Err, ap, ◌∙◌, arith, eq-eqb}
use Rattle.std.proofs.lemmas.Bool.{ne_eqb}
use Rattle.command_text.specs.declared.fault.CommandFault.{CommandFault}
use Rattle.command_text.specs.declared.fault.CommandFault.TheVariants.{WordCount}
use Rattle.command_text.specs.Parse.{counted, word_at}
use Rattle.command_text.specs.Words.{Texts}

module _ (all left : Texts) (i count : ℕ) (so_far : length all ≡ length left + i) where
  abbrev by_test : Bool → Result Texts CommandFault
  by_test t = cond t (Ok all) (Err WordCount)

  -- the words end before the count
  pub too_few : (fault : CommandFault) → word_at left ≡ Err fault → i < count → counted count all ≡ Err fault
  too_few fault e lt = few left so_far e
    where
      few : (left : Texts) → length all ≡ length left + i → word_at left ≡ Err fault → counted count all ≡ Err fault
      few [] so_far e = let is : WordCount ≡ fault = cc in ap by_test (ne_eqb (length all) count (λ same. absurd (omega (arith, so_far, lt, same)))) ∙ ap Err is
      few (word ∷ words) so_far e = cc

  -- they end with it
  pub all_counted : left ≡ [] → count ≤ i → i ≤ count → counted count all ≡ Ok all
  all_counted none le ge = ap by_test (eq-eqb (length all) count (omega (arith, so_far, ap length none, le, ge)))

  -- and they go on after it
  pub too_many : (word : List ℕ) (words : Texts) → left ≡ word ∷ words → count ≤ i → i ≤ count → counted count all ≡ Err WordCount
  too_many word words some le ge = ap by_test (ne_eqb (length all) count (λ same. absurd (omega (arith, so_far, ap length some, le, ge, same))))

pub ruleset counts = (too_few, all_counted, too_many)
