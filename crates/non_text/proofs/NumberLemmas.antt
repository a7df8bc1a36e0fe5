-- Numbers as the reader keeps them, up to 255.
use Rattle.std.proofs.Common.{◌≡◌, ℕ, Option, Some, None, refl, ap, arith, min, option_map}

pub capped_some : (number : Option ℕ) (n : ℕ) → option_map (min 100000) number ≡ Some n → option_map (min 255) number ≡ Some (min n 255)
capped_some None n e = cc
capped_some (Some m) n e = let is : min 100000 m ≡ n = cc in ap Some (omega (arith, is))

pub capped_none : (number : Option ℕ) → option_map (min 100000) number ≡ None → option_map (min 255) number ≡ None
capped_none None e = refl
capped_none (Some m) e = cc

pub ruleset numbers = (capped_some, capped_none)
