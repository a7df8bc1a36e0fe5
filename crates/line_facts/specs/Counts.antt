-- Counts that stay at the largest 64-bit number once they are there.
use Rattle.std.specs.Prelude.{◌≡◌, ℕ, ◌+◌, ◌-◌, ◌^◌, min}
use Rattle.line_facts.specs.declared.meter.Meter.{Meter}

-- the count after n more
abbrev pub counted : ℕ → ℕ → ℕ
counted count n = min (count + n) (2 ^ 64 - 1)

-- With e evaluations and t trials, each of them one call of an engine's `narrow`:
-- the meter's counts rise by e and t, and the engine's calls by both together.
pub record Counts (e t : ℕ) (old new : Meter) (before after : ℕ) : Type 0 where
  pub evaluations : new.evaluations ≡ counted old.evaluations e
  pub trials : new.trials ≡ counted old.trials t
  pub calls : after ≡ counted before (e + t)
