-- Literals that are open, one by one.
use Rattle.std.proofs.Common.{◌≡◌, ◌⊎◌, ℕ, ◌+◌, ◌<◌, ◌≤◌, Bool, true, false, cond, List, [], ◌∷◌, ◌++◌, length, take, drop, drop-cons, add-one, get_or, nat_lt, refl, sym, ap, ◌∙◌}
use Rattle.std.proofs.Common.{arith, inl, inr}
use Rattle.std.proofs.lemmas.Bool.{le-ltb, lt-ltb}
use Rattle.std.proofs.lemmas.List.{take_more, take-append-drop, take_all, append-nil}
use Rattle.std.proofs.lemmas.List.Elements.{filter-append}
use Rattle.line_facts.specs.Masks.{Masks}
use Rattle.cert_text.specs.declared.cert_line.Literal.{Literal}
use Rattle.cert_check.specs.declared.opening.Open.{Open}
use Rattle.cert_check.specs.declared.opening.Open.TheVariants.{Nothing, One, More}
use Rattle.cert_check.specs.Opening.{told_open}
use Rattle.cert_check.specs.Lemmas.{held_by, held_to, left_of, still_open}

abbrev test : Masks → Literal → Bool
test facts literal = nat_lt 0 (left_of facts literal)

is_open : (facts : Masks) (literal : Literal) → 0 < left_of facts literal → test facts literal ≡ true
is_open facts literal l = lt-ltb 0 (left_of facts literal) l

is_closed : (facts : Masks) (literal : Literal) → left_of facts literal ≡ 0 → test facts literal ≡ false
is_closed facts literal e = le-ltb 0 (left_of facts literal) (omega arith)

-- what is open of a list that begins with a literal
pub open_first : (facts : Masks) (literal : Literal) (literals : List Literal) → 0 < left_of facts literal → still_open facts (literal ∷ literals) ≡ literal ∷ still_open facts literals
open_first facts literal literals l = ap (λ (t : Bool). cond t (literal ∷ still_open facts literals) (still_open facts literals)) (is_open facts literal l)

pub closed_first : (facts : Masks) (literal : Literal) (literals : List Literal) → left_of facts literal ≡ 0 → still_open facts (literal ∷ literals) ≡ still_open facts literals
closed_first facts literal literals e = ap (λ (t : Bool). cond t (literal ∷ still_open facts literals) (still_open facts literals)) (is_closed facts literal e)

-- how many are open, counted from the first literal, and then with one more at the end
told_none : (literals : List Literal) → told_open literals ≡ Nothing → literals ≡ []
told_none [] e = refl
told_none (literal ∷ []) e = cc
told_none (literal ∷ next ∷ literals) e = cc

told_more : (literals rest : List Literal) (literal : Literal) → (told_open literals ≡ Nothing → ⊥) → told_open (literals ++ literal ∷ rest) ≡ More
told_more [] rest literal n = absurd (n refl)
told_more (one ∷ []) rest literal n = refl
told_more (one ∷ next ∷ literals) rest literal n = refl

-- how many are open among the literals so far
abbrev pub ToldSoFar : Masks → List Literal → ℕ → Open → Type 0
ToldSoFar facts literals i seen = seen ≡ told_open (still_open facts (take i literals))

module _ (facts : Masks) (literals : List Literal) (i : ℕ) (d : Literal) (l : i < length literals) where
  abbrev here : Literal
  here = get_or literals i d

  further : still_open facts (take (i + 1) literals) ≡ still_open facts (take i literals) ++ still_open facts (here ∷ [])
  further = ap (still_open facts) (take_more literals i d l) ∙ filter-append (test facts) (take i literals) (here ∷ [])

  pub closed_told : (seen : Open) → ToldSoFar facts literals i seen → left_of facts here ≡ 0 → ToldSoFar facts literals (i + 1) seen
  closed_told seen so_far e =
      so_far
      ∙ ap told_open (sym (further ∙ (ap (λ (ls : List Literal). still_open facts (take i literals) ++ ls) (closed_first facts here [] e) ∙ append-nil (still_open facts (take i literals)))))

  pub first_told : ToldSoFar facts literals i Nothing → 0 < left_of facts here → ToldSoFar facts literals (i + 1) (One here)
  first_told so_far some =
      ap told_open (sym (further
      ∙ (ap (λ (ls : List Literal). ls ++ still_open facts (here ∷ [])) (told_none (still_open facts (take i literals)) (sym so_far)) ∙ open_first facts here [] some)))

  pub more_told : (seen : Open) → ToldSoFar facts literals i seen → (seen ≡ Nothing → ⊥) → 0 < left_of facts here → More ≡ told_open (still_open facts literals)
  more_told seen so_far n some =
      sym (ap told_open whole ∙ told_more (still_open facts (take i literals)) (still_open facts (drop (i + 1) literals)) here (λ e. n (so_far ∙ e)))
    where
      rest : drop i literals ≡ here ∷ drop (i + 1) literals
      rest = rw (add-one, drop-cons literals i d) refl

      whole : still_open facts literals ≡ still_open facts (take i literals) ++ here ∷ still_open facts (drop (i + 1) literals)
      whole =
          ap (still_open facts) (sym (take-append-drop i literals))
          ∙ (filter-append (test facts) (take i literals) (drop i literals)
          ∙ ap (λ (ls : List Literal). still_open facts (take i literals) ++ ls) (ap (still_open facts) rest ∙ open_first facts here (drop (i + 1) literals) some))

pub all_told : (facts : Masks) (literals : List Literal) (i : ℕ) (seen : Open) → length literals ≤ i → ToldSoFar facts literals i seen → seen ≡ told_open (still_open facts literals)
all_told facts literals i seen all so_far = so_far ∙ ap (λ (ls : List Literal). told_open (still_open facts ls)) (take_all i literals all)

pub not_first : (seen : Open) → ((literal : Literal) × (seen ≡ One literal)) ⊎ (seen ≡ More) → seen ≡ Nothing → ⊥
not_first seen (inl p) e = let z = sym e ∙ p.1 in cc
not_first seen (inr m) e = let z = sym e ∙ m in cc

-- what follows from the literals that are open: nothing, or the only one
pub one_holds : (facts : Masks) (literals : List Literal) (literal : Literal) → One literal ≡ told_open literals → held_to facts literal ≡ held_by facts literals
one_holds facts [] literal e = cc
one_holds facts (one ∷ []) literal e = let same : one ≡ literal = cc in ap (held_to facts) (sym same)
one_holds facts (one ∷ next ∷ literals) literal e = cc

pub nothing_holds : (facts : Masks) (literals : List Literal) (seen : Open) → seen ≡ told_open literals → ((literal : Literal) → seen ≡ One literal → ⊥) → facts ≡ held_by facts literals
nothing_holds facts [] seen e n = refl
nothing_holds facts (one ∷ []) seen e n = absurd (n one e)
nothing_holds facts (one ∷ next ∷ literals) seen e n = refl
