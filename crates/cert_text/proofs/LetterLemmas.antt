-- Letters read one by one, and written one by one.
use Rattle.std.proofs.Common.{◌≡◌, ℕ, ◌+◌, ◌*◌, ◌%◌, ◌^◌, ◌<◌, ◌≤◌, ◌==◌, Bool, true, false, cond, List, [], ◌∷◌, length, get_or, drop, drop-cons, add-one, bit_and, Option, None, Some, nat_le, refl}
use Rattle.std.proofs.Common.{sym, ap, ◌∙◌, arith, inl, inr, eq-eqb, eqb-true}
use Rattle.std.proofs.lemmas.List.{drop_all}
use Rattle.std.proofs.lemmas.Bool.{le-leb}
use Rattle.std.proofs.lemmas.Bool.Decides.{leb_tells}
use Rattle.std.proofs.lemmas.Grind.{one_shifted, pow_more}
use Rattle.std.proofs.Math.Pow.{pow_mono}
use Rattle.std.proofs.lemmas.Nat.{pow_pos}
use Rattle.cert_text.specs.Letters.{colour_at, colours_behind, colours_named, letter, letter_where, with_colour}

-- ---- reading

pub named_some : (word : List ℕ) → 0 < length word → colours_named word ≡ colours_behind 0 0 word
named_some [] some = absurd (omega (arith, some))
named_some (b ∷ word) some = refl

-- reading on from here gives what reading the whole word gives
abbrev SoFar : List ℕ → ℕ → ℕ → ℕ → Type 0
SoFar word i colours least = colours_behind 0 0 word ≡ colours_behind colours least (drop i word)

module _ (word : List ℕ) (i colours least : ℕ) (so_far : SoFar word i colours least) where
  by_letter : (o : Option ℕ) → i < length word → o ≡ colour_at (get_or word i 0) → colours_named word ≡ with_colour colours least o (λ more next. colours_behind more next (drop (i + 1) word))
  unfolding colours_behind
  by_letter o l e =
      named_some word (omega (arith, l))
      ∙ (so_far
      ∙ (ap (colours_behind colours least) here
      ∙ ap (λ (p : Option ℕ). with_colour colours least p (λ more next. colours_behind more next (drop (i + 1) word))) (sym e)))
    where
      here : drop i word ≡ get_or word i 0 ∷ drop (i + 1) word
      here = rw (add-one, drop-cons word i 0) refl

  pub no_colour : i < length word → None ≡ colour_at (get_or word i 0) → None ≡ colours_named word
  no_colour l e = sym (by_letter None l e)

  pub falls : (k : ℕ) → i < length word → Some k ≡ colour_at (get_or word i 0) → k < least → None ≡ colours_named word
  falls k l e below =
      let no : nat_le least k ≡ false = elim (leb_tells least k) [ inl p ↦ absurd (let q = p.1 in omega arith) | inr p ↦ p.0 ] in
      sym (by_letter (Some k) l e ∙ ap (λ (t : Bool). cond t (colours_behind (colours + 2 ^ k) (k + 1) (drop (i + 1) word)) None) no)

  pub rises : (k more : ℕ) → i < length word → Some k ≡ colour_at (get_or word i 0) → least ≤ k → k < 16 → more ≡ colours + 1 * 2 ^ k % 65536 → SoFar word (i + 1) more (k + 1)
  rises k more l e up small m =
      let yes : nat_le least k ≡ true = le-leb least k up in
      let same : colours + 2 ^ k ≡ more = (let s = (one_shifted k 65535 refl small).0 in omega arith) in
      sym (named_some word (omega (arith, l)))
      ∙ (by_letter (Some k) l e
      ∙ (ap (λ (t : Bool). cond t (colours_behind (colours + 2 ^ k) (k + 1) (drop (i + 1) word)) None) yes
      ∙ ap (λ (n : ℕ). colours_behind n (k + 1) (drop (i + 1) word)) same))

  pub all_read : 0 < length word → length word ≤ i → Some colours ≡ colours_named word
  unfolding colours_behind
  all_read some all = sym (named_some word some ∙ (so_far ∙ ap (colours_behind colours least) (drop_all i word all)))

pub stays_small : (colours least k : ℕ) → colours < 2 ^ least → least ≤ k → k < 16 → colours + 1 * 2 ^ k % 65536 < 2 ^ (k + 1)
stays_small colours least k small up l =
    let p = pow_mono {i = least} {j = k} up in
    let s = (one_shifted k 65535 refl l).0 in
    let d = pow_more 2 k in
    omega arith

pub some_more : (colours k : ℕ) → k < 16 → 0 < colours + 1 * 2 ^ k % 65536
some_more colours k l =
    let s = (one_shifted k 65535 refl l).0 in
    omega (arith, pow_pos k)

-- ---- writing

pub no_letter : (colours k : ℕ) → k < 16 → bit_and colours (1 * 2 ^ k % 65536) ≡ 0 → letter_where colours k ≡ []
no_letter colours k l e =
    let s = (one_shifted k 65535 refl l).0 in
    let none : bit_and colours (2 ^ k) ≡ 0 = ap (bit_and colours) (sym s) ∙ e in
    ap (λ (t : Bool). cond t [] (letter k ∷ [])) (eq-eqb (bit_and colours (2 ^ k)) 0 none)

pub a_letter : (colours k : ℕ) → k < 16 → (bit_and colours (1 * 2 ^ k % 65536) ≡ 0 → ⊥) → letter_where colours k ≡ letter k ∷ []
a_letter colours k l n = by (bit_and colours (2 ^ k) == 0) refl
  where
    by : (b : Bool) → (bit_and colours (2 ^ k) == 0) ≡ b → letter_where colours k ≡ letter k ∷ []
    by true e = absurd (n (ap (bit_and colours) (one_shifted k 65535 refl l).0 ∙ eqb-true (bit_and colours (2 ^ k)) 0 e))
    by false e = ap (λ (t : Bool). cond t [] (letter k ∷ [])) e
