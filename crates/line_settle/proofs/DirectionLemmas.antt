-- In both directions a cell leads a line on from a state of the pattern, by a colour that can be read.
use Rattle.std.proofs.Common.{◌≡◌, ℕ, ◌+◌, ◌<◌, ◌⊎◌, Bool, true, List, inl, inr, arith, length, get_or}
use Rattle.line_settle.specs.Directions.{End, step_from}
use Rattle.line_settle.specs.Directions.End.{Front, Back}
use Rattle.line_settle.specs.Patterns.{allows}
use Rattle.line_settle.proofs.StateLemmas.{Step}
use Rattle.line_settle.proofs.StepLemmas.{finish_crosses, reached_by_step}
use Rattle.line_settle.proofs.MarkedLemmas.{within}

-- a colour is background or one that the pattern spells
abbrev pub IsSpelled : List ℕ → ℕ → Type 0
IsSpelled pattern k = (k ≡ 0) ⊎ ((q : ℕ) × (q + 1 < length pattern) × (k ≡ get_or pattern (q + 1) 0))

pub step_spells : (pattern : List ℕ) (q x r : ℕ) → Step pattern q x r → IsSpelled pattern x
step_spells pattern q x r s = elim s [ inl a ↦ inr (q, a.0, a.1) | inr b ↦ inl b.0 ]

step_begins : (pattern : List ℕ) (q x r : ℕ) → r < length pattern → Step pattern q x r → q < length pattern
step_begins pattern q x r h s = elim s [ inl a ↦ (let l = a.0 in omega arith) | inr b ↦ (let e = b.2 in omega arith) ]

-- a state of the pattern for which a test holds, and a colour of the mask that can be read
pub record Lead (pattern : List ℕ) (mask : ℕ) (test : ℕ → Bool) : Type 0 where
  pub from : ℕ
  pub inside : from < length pattern
  pub was : test from ≡ true
  pub colour : ℕ
  pub allowed : allows mask colour ≡ true
  pub spelled : IsSpelled pattern colour

pub lead : (end : End) (pattern : List ℕ) (mask : ℕ) (test : ℕ → Bool) (q : ℕ) → q < length pattern → step_from end pattern mask test q ≡ true → Lead pattern mask test
lead Front pattern mask test q h e =
    let r = reached_by_step pattern mask test q h e in
    record {
      from = r.from;
      inside = step_begins pattern r.from r.colour q h r.step;
      was = r.was;
      colour = r.colour;
      allowed = r.allowed;
      spelled = step_spells pattern r.from r.colour q r.step;
    }
lead Back pattern mask test q h e =
    let c = finish_crosses pattern mask test q e in
    record {
      from = c.1.next;
      inside = within pattern q c.0 c.1.next h c.1.step;
      was = c.1.reaches_good;
      colour = c.0;
      allowed = c.1.allowed;
      spelled = step_spells pattern q c.0 c.1.next c.1.step;
    }
